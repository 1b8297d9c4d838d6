-- A leaf that is not white and has a father has a white pixel in a block beside its own: the father's block has one,
-- since no fork is needless.
use mathlib.Core.Bool.{false}
use mathlib.Core.List.{List}
use mathlib.Core.Logic.{⊎_elim}
use mathlib.Core.Path.{◌≡◌, refl, sym, ◌∙◌}
use Prim.Native.Nat.{ℕ, suc, ◌+◌, ◌-◌, ◌*◌, ◌/◌, ◌%◌, ◌^◌, ◌<◌}
use native.Mathlib.Omega.{arith}
use lib.ListN.{length}
use Rattle.quad.specs.Numbers.{white, black}
use Rattle.quad.specs.Block.{path_of, column, row}
use Rattle.quad.specs.Tree.{leaf}
use Rattle.quad.proofs.PathLaws.{half_last, path_back, column_lt, row_lt}
use Rattle.table.specs.Table.{nodes, father, node_type, is_fork}
use Rattle.table.specs.Rules.{Accepted}
use Rattle.table.specs.Nodes.{son_type, path_to, holder, pixel, tree_at, level_of}
use Rattle.table.proofs.AcceptedLaws.{tree_sound, tree_fork, father_below, father_fork, son_type_lt, depth_up, depth_le}
use Rattle.table.proofs.HolderLaws.{path_up, own_quadrants, own_path}
use Rattle.table.proofs.BlockPixels.{pixel_block}
use Rattle.neighbour.specs.Search.{stay}
use Rattle.distance.proofs.NearestLaws.{White}
use Rattle.distance.proofs.WhiteLaws.{HasWhite, black_or_white}
use Rattle.distance_fill.proofs.BesideLaws.{way, Near, in_sheet, block_lt, level_depth, own_pixel}

-- a white pixel of a block beside p's
pub record WhiteBeside (n : ℕ) (T : List ℕ) (acc : Accepted n T) (p : ℕ) (lt : p < nodes T) : Type 0 where
  pub D : ℕ
  pub below : D < stay
  pub i : ℕ
  pub j : ℕ
  pub white : White n (pixel n T) i j
  pub near : Near n T acc p lt D (i / 2 ^ level_of n T p) (j / 2 ^ level_of n T p)

-- a block in the father's, and its own: one step or none along an axis
step_in : (A q B : ℕ) → q < 2 → B / 2 ≡ A → (B + 1 - (q + 2 * A) < 3) × (B + 1 ≡ q + 2 * A + (B + 1 - (q + 2 * A)))
step_in A q B h e = (omega arith, omega arith)

module _ (n : ℕ) (T : List ℕ) (acc : Accepted n T) (p : ℕ) (lt : p < nodes T) (pos : 0 < p) where
  abbrev level : ℕ
  level = level_of n T p

  abbrev above : ℕ
  above = father T p

  above_lt : above < nodes T
  above_lt = omega (arith, father_below n T acc p lt pos)

  above_level : level_of n T above ≡ suc level
  above_level = omega (arith, depth_up n T acc p lt pos, depth_le T n p)

  -- the father's tree is a fork, so it is not one black leaf
  father_white : HasWhite (suc level) (tree_at T (suc level) above) (column (path_to T n above)) (row (path_to T n above))
  father_white =
      let s = tree_sound n T acc (suc level) above above_lt (omega (arith, above_level, depth_le T n above)) in
      let t = tree_fork T level above (father_fork n T acc p lt pos) in
      ⊎_elim
      (λ (e : tree_at T (suc level) above ≡ leaf black). absurd (let z : ◌≡◌ {A = ℕ} 0 1 = cc in omega arith))
      (λ w. w)
      (black_or_white (suc level) (tree_at T (suc level) above) (column (path_to T n above)) (row (path_to T n above)) s.within s.reduced s.coloured)

  pub white_beside : is_fork T p ≡ false → (node_type T p ≡ white → ⊥) → WhiteBeside n T acc p lt
  white_beside f dark =
      let h = father_white in
      let x : ℕ = h.x in
      let y : ℕ = h.y in
      let π = path_to T n above in
      let quadrants = own_quadrants n T acc above above_lt in
      let size : suc level + length π ≡ n = omega (arith, above_level, level_depth n T acc above above_lt) in
      let here : holder T (path_of (length π) (x / 2 ^ suc level) (y / 2 ^ suc level)) ≡ above =
      rw (h.column, h.row, path_back π quadrants) (own_path n T acc above above_lt) in
      let colour : pixel n T x y ≡ white = pixel_block n (suc level) (length π) T x y size ∙ rw here h.colour in
      let B : ℕ = x / 2 ^ level in
      let C : ℕ = y / 2 ^ level in
      let X : ℕ = column (path_to T n p) in
      let Y : ℕ = row (path_to T n p) in
      let q4 = son_type_lt n T acc p lt pos in
      let eX : X ≡ son_type T p % 2 + 2 * column π = rw (path_up n T acc p lt pos) (unfold column in refl) in
      let eY : Y ≡ son_type T p / 2 + 2 * row π = rw (path_up n T acc p lt pos) (unfold row in refl) in
      let u = step_in (column π) (son_type T p % 2) B (omega arith) (half_last level x ∙ h.column) in
      let v = step_in (row π) (son_type T p / 2) C (omega arith) (half_last level y ∙ h.row) in
      let hx : x < 2 ^ n = in_sheet n T acc above above_lt x (column π) (rw above_level h.column) (column_lt π quadrants) in
      let hy : y < 2 ^ n = in_sheet n T acc above above_lt y (row π) (rw above_level h.row) (row_lt π quadrants) in
      let u' : (B + 1 - X < 3) × (B + 1 ≡ X + (B + 1 - X)) = rw eX u in
      let v' : (C + 1 - Y < 3) × (C + 1 ≡ Y + (C + 1 - Y)) = rw eY v in
      let w = way (B + 1 - X) (C + 1 - Y) u'.0 v'.0 (λ a b. dark (sym (own_pixel n T acc p lt x y f (omega arith) (omega arith)) ∙ colour)) in
      record {
        D = w.D;
        below = w.below;
        i = x;
        j = y;
        white = record { across = hx; down = hy; colour = colour };
        near = record {
          across = block_lt n T acc p lt x hx;
          down = block_lt n T acc p lt y hy;
          east = rw w.across u'.1;
          south = rw w.down v'.1;
        };
      }
