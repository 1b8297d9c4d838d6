-- The neighbours of a node told by blocks and pixels: the block in direction D of p's, the offsets and distances of its
-- white pixels, and every pixel of the sheet in p's own block, in one of the eight beside it, or two or more blocks
-- away.
use mathlib.Core.Bool.{Bool, true, false, ◌&&◌, true≢false}
use mathlib.Core.List.{List}
use mathlib.Core.Logic.{◌⊎◌, inl, inr, ⊎_elim}
use mathlib.Core.Path.{◌≡◌, refl, ap, sym, ◌∙◌}
use Prim.Native.Nat.{ℕ, zero, suc, ◌+◌, ◌-◌, ◌*◌, ◌/◌, ◌^◌, ◌≤◌, ◌<◌, max}
use native.Mathlib.Nat.{zero-add, eq-zero-or-pos}
use native.Mathlib.Omega.{arith}
use lib.Dec.{ltb, eqb}
use lib.ListN.{length}
use lib.Pow.{shr_lt}
use borrow.Author.Tests.{ltb-true, eqb-true, eq-eqb}
use Rattle.std.proofs.Common.{Option, Some, None}
use Rattle.base.specs.All.{all}
use Rattle.base.proofs.AllLaws.{all_at}
use Rattle.base.proofs.BoolLaws.{by_bool, lt_or_ge, and_left, and_right}
use Rattle.base.proofs.PowLaws.{below_pow}
use Rattle.quad.specs.Numbers.{white, none}
use Rattle.quad.specs.Block.{path_of, column, row, Quadrants}
use Rattle.quad.specs.Direction.{east_step, south_step}
use Rattle.quad.proofs.PathLaws.{path_length, path_quadrants, path_back, column_lt, row_lt}
use Rattle.table.specs.Table.{nodes, node_type, is_fork}
use Rattle.table.specs.Rules.{Accepted}
use Rattle.table.specs.Nodes.{path_to, holder, pixel, level_of, centre_across, centre_down}
use Rattle.table.proofs.AcceptedLaws.{depth_le}
use Rattle.table.proofs.NodeLaws.{path_root}
use Rattle.table.proofs.HolderLaws.{held, own_quadrants, own_path, own_depth}
use Rattle.table.proofs.BlockPixels.{pixel_block}
use Rattle.neighbour.specs.declared.Found.{Found}
use Rattle.neighbour.specs.Neighbour.{neighbour_found, At}
use Rattle.neighbour.specs.Search.{stay}
use Rattle.neighbour.proofs.SearchLaws.{must_move}
use Rattle.neighbour.proofs.NeighbourLaws.{lies, lies_found}
use Rattle.distance.specs.Distance.{to_pixel}
use Rattle.distance_seek.specs.Search.{offset_under}
use Rattle.distance_seek.specs.Around.{offset_found, offset_beside}
use Rattle.distance.proofs.NearestLaws.{WhiteAt}
use Rattle.distance_seek.proofs.SearchLaws.{offset_leaf}
use Rattle.distance_seek.proofs.OffsetLaws.{pixel_offset, offset_lt, hue_leaf, offset_le, Reached, offset_hit}
use Rattle.distance_fill.proofs.GapLaws.{to_neighbour, Apart, far_across, far_down}

-- a step along each axis, not both staying, is one of the eight directions
pub record Way (east south : ℕ) : Type 0 where
  pub D : ℕ
  pub below : D < stay
  pub across : east_step D ≡ east
  pub down : south_step D ≡ south

pub way : (east south : ℕ) → east < 3 → south < 3 → (east ≡ 1 → south ≡ 1 → ⊥) → Way east south
unfolding east_step south_step
way zero zero he hs apart = record { D = 4; below = omega arith; across = refl; down = refl }
way zero (suc zero) he hs apart = record { D = 3; below = omega arith; across = refl; down = refl }
way zero (suc (suc zero)) he hs apart = record { D = 6; below = omega arith; across = refl; down = refl }
way (suc zero) zero he hs apart = record { D = 0; below = omega arith; across = refl; down = refl }
way (suc zero) (suc zero) he hs apart = absurd (apart refl refl)
way (suc zero) (suc (suc zero)) he hs apart = record { D = 2; below = omega arith; across = refl; down = refl }
way (suc (suc zero)) zero he hs apart = record { D = 5; below = omega arith; across = refl; down = refl }
way (suc (suc zero)) (suc zero) he hs apart = record { D = 1; below = omega arith; across = refl; down = refl }
way (suc (suc zero)) (suc (suc zero)) he hs apart = record { D = 7; below = omega arith; across = refl; down = refl }
way zero (suc (suc (suc k))) he hs apart = absurd (omega arith)
way (suc zero) (suc (suc (suc k))) he hs apart = absurd (omega arith)
way (suc (suc zero)) (suc (suc (suc k))) he hs apart = absurd (omega arith)
way (suc (suc (suc k))) south he hs apart = absurd (omega arith)

steps_small : all (λ D. ltb (east_step D) 3 && ltb (south_step D) 3) 8 ≡ true
unfolding east_step south_step
steps_small = refl

steps_lt : (D : ℕ) → D < stay → (east_step D < 3) × (south_step D < 3)
steps_lt D d =
    let a : Bool = ltb (east_step D) 3 in
    let b : Bool = ltb (south_step D) 3 in
    let h = all_at (λ (D : ℕ). ltb (east_step D) 3 && ltb (south_step D) 3) 8 steps_small D d in
    (ltb-true _ _ (and_left a b h), ltb-true _ _ (and_right a b h))

-- along one axis, block B lies a step from X, or two or more away
pub step_or_apart : (X B : ℕ) → ((e : ℕ) × (e < 3) × (B + 1 ≡ X + e)) ⊎ Apart X B
step_or_apart X B =
    ⊎_elim (λ (h : B + 1 < X). inr (inr (omega arith)))
    (λ (h : X ≤ B + 1).
    ⊎_elim (λ (k : B < X + 2). inl (B + 1 - X, omega arith, omega arith)) (λ (k : X + 2 ≤ B). inr (inl k)) (lt_or_ge B (X + 2)))
    (lt_or_ge (B + 1) X)

module _ (n : ℕ) (T : List ℕ) (acc : Accepted n T) (p : ℕ) (lt : p < nodes T) where
  abbrev pub depth : ℕ
  depth = length (path_to T n p)

  abbrev X : ℕ
  X = column (path_to T n p)

  abbrev Y : ℕ
  Y = row (path_to T n p)

  abbrev level : ℕ
  level = level_of n T p

  pub level_depth : level + depth ≡ n
  level_depth = omega (arith, own_depth n T acc p lt, depth_le T n p)

  -- the block (B, C) of p's size lies in direction D of p's
  pub record Near (D B C : ℕ) : Type 0 where
    pub across : B < 2 ^ depth
    pub down : C < 2 ^ depth
    pub east : B + 1 ≡ X + east_step D
    pub south : C + 1 ≡ Y + south_step D

  -- the neighbour in that direction holds it
  abbrev pub there : ℕ → ℕ → ℕ
  there B C = holder T (path_of depth B C)

  pub found_near : (D B C : ℕ) → Near D B C → neighbour_found n T p D ≡ At (there B C) (level_of n T (there B C))
  unfolding neighbour_found
  found_near D B C h =
      let e = h.east in
      let s = h.south in
      let b = h.across in
      let c = h.down in
      let x : X + east_step D - 1 ≡ B = omega arith in
      let y : Y + south_step D - 1 ≡ C = omega arith in
      rw (lies_found n T depth X Y D (record { low = omega arith; high = omega arith }) (record { low = omega arith; high = omega arith }), x, y)

  -- at p's own level or, for a leaf, as if there
  pub beside_near : (D B C : ℕ) → Near D B C → offset_beside n T p D ≡ offset_under T (east_step D) (south_step D) level (there B C) 0 0
  unfolding offset_beside offset_found
  beside_near D B C h =
      let m : ℕ = there B C in
      let k = held n T acc (path_of depth B C) (path_quadrants depth B C) in
      rw (found_near D B C h)
      (⊎_elim
      (λ (f : is_fork T m ≡ true).
      let e : level_of n T m ≡ level = omega (arith, k.full f, path_length depth B C, own_depth n T acc p lt) in
      rw e)
      (λ (f : is_fork T m ≡ false).
      offset_leaf T (east_step D) (south_step D) (level_of n T m) m 0 0 f ∙ sym (offset_leaf T (east_step D) (south_step D) level m 0 0 f))
      (by_bool (is_fork T m)))

  -- off the sheet there is none
  found_block : (D m k : ℕ) → neighbour_found n T p D ≡ At m k → (B : ℕ) × (C : ℕ) × Near D B C
  unfolding neighbour_found
  found_block D m k e =
      let i = lies n T depth X Y D m k e in
      let a = i.across.low in
      let a' = i.across.high in
      let b = i.down.low in
      let b' = i.down.high in
      (X + east_step D - 1, Y + south_step D - 1, record { across = omega arith; down = omega arith; east = omega arith; south = omega arith })

  pub none_or_near : (D : ℕ) → (offset_beside n T p D ≡ none) ⊎ ((B : ℕ) × (C : ℕ) × Near D B C)
  unfolding offset_beside offset_found
  none_or_near D = go (neighbour_found n T p D) refl
    where
      go : (f : Option Found) → neighbour_found n T p D ≡ f → (offset_found T D f ≡ none) ⊎ ((B : ℕ) × (C : ℕ) × Near D B C)
      go None e = inl refl
      go (Some f) e = inr (found_block D f.node f.level e)

  -- from the centre of p's block
  abbrev pub far : ℕ → ℕ → ℕ
  far i j = to_pixel (centre_across n T p) (centre_down n T p) i j

  -- the offset of a pixel in direction D
  abbrev pub onward : ℕ → ℕ → ℕ → ℕ
  onward D i j = max (pixel_offset (east_step D) level i) (pixel_offset (south_step D) level j)

  pub onward_lt : (D i j : ℕ) → onward D i j < 2 ^ level
  onward_lt D i j = omega (arith, offset_lt (east_step D) level i, offset_lt (south_step D) level j)

  -- a pixel of a neighbour is as far as its offset says
  pub near_far : (D i j : ℕ) → D < stay → Near D (i / 2 ^ level) (j / 2 ^ level) → far i j ≡ 2 ^ level + 2 * onward D i j
  near_far D i j d h =
      let s = steps_lt D d in
      to_neighbour (east_step D) (south_step D) level X Y i j s.0 s.1 (must_move D d) h.east h.south

  -- and the search finds no greater offset than a white one's
  pub near_le : (D i j : ℕ) → Near D (i / 2 ^ level) (j / 2 ^ level) → pixel n T i j ≡ white → offset_beside n T p D ≤ onward D i j
  near_le D i j h w =
      let m : ℕ = there (i / 2 ^ level) (j / 2 ^ level) in
      let le = offset_le T (east_step D) (south_step D) level m 0 0 i j (sym (pixel_block n level depth T i j level_depth) ∙ w) in
      rw (beside_near D (i / 2 ^ level) (j / 2 ^ level) h) (simp zero-add at le)

  -- what it finds in a direction is a white pixel's offset, or none
  pub record Seen (D : ℕ) : Type 0 where
    pub small : offset_beside n T p D < 2 ^ level
    pub at : WhiteAt n (pixel n T) (centre_across n T p) (centre_down n T p) (2 ^ level + 2 * offset_beside n T p D)

  pub in_sheet : (x B : ℕ) → x / 2 ^ level ≡ B → B < 2 ^ depth → x < 2 ^ n
  in_sheet x B e h =
      let k : depth + level ≡ n = omega (arith, level_depth) in
      below_pow depth level n x k (rw e h)

  pub block_lt : (x : ℕ) → x < 2 ^ n → x / 2 ^ level < 2 ^ depth
  block_lt x h =
      let k : depth + level ≡ n = omega (arith, level_depth) in
      shr_lt {n = x} depth level (rw k h)

  reached_seen : (D B C : ℕ) → D < stay → Near D B C
      → Reached T (east_step D) (south_step D) level (there B C) 0 0 B C (offset_under T (east_step D) (south_step D) level (there B C) 0 0) → Seen D
  reached_seen D B C d h r =
      let i : ℕ = r.x in
      let j : ℕ = r.y in
      let here : Near D (i / 2 ^ level) (j / 2 ^ level) = rw (r.column, r.row) h in
      let o : onward D i j ≡ offset_beside n T p D = (simp zero-add at r.far) ∙ sym (beside_near D B C h) in
      let c : pixel n T i j ≡ white = pixel_block n level depth T i j level_depth ∙ rw (r.column, r.row) r.colour in
      record {
        small = rw o at (onward_lt D i j);
        at = record {
          i = i;
          j = j;
          pixel = record { across = in_sheet i B r.column h.across; down = in_sheet j C r.row h.down; colour = c };
          far = near_far D i j d here ∙ ap (λ (v : ℕ). 2 ^ level + 2 * v) o;
        };
      }

  pub none_or_seen : (D : ℕ) → D < stay → (offset_beside n T p D ≡ none) ⊎ Seen D
  none_or_seen D d =
      ⊎_elim inl
      (λ (b : (B : ℕ) × (C : ℕ) × Near D B C).
      let m : ℕ = there b.0 b.1 in
      ⊎_elim
      (λ (e : offset_under T (east_step D) (south_step D) level m 0 0 ≡ none). inl (beside_near D b.0 b.1 b.2 ∙ e))
      (λ r. inr (reached_seen D b.0 b.1 d b.2 r))
      (offset_hit T (east_step D) (south_step D) level m 0 0 b.0 b.1))
      (none_or_near D)

  -- p's own block has the colour of p
  pub own_pixel : (i j : ℕ) → is_fork T p ≡ false → i / 2 ^ level ≡ X → j / 2 ^ level ≡ Y → pixel n T i j ≡ node_type T p
  own_pixel i j f ex ey =
      let π = path_to T n p in
      let m : there (i / 2 ^ level) (j / 2 ^ level) ≡ p = rw (ex, ey, path_back π (own_quadrants n T acc p lt)) (own_path n T acc p lt) in
      pixel_block n level depth T i j level_depth ∙ rw m (hue_leaf T level p i j f)

  -- where a pixel of the sheet lies
  pub data Placed (i j : ℕ) : Type 0 where
    own : i / 2 ^ level ≡ X → j / 2 ^ level ≡ Y → Placed i j
    beside_it : (D : ℕ) → D < stay → Near D (i / 2 ^ level) (j / 2 ^ level) → Placed i j
    away : 0 < p → 3 * 2 ^ level ≤ far i j → Placed i j

  pub placed : (i j : ℕ) → i < 2 ^ n → j < 2 ^ n → Placed i j
  placed i j hi hj =
      let B : ℕ = i / 2 ^ level in
      let C : ℕ = j / 2 ^ level in
      let b = block_lt i hi in
      let c = block_lt j hj in
      ⊎_elim
      (λ (e : (e : ℕ) × (e < 3) × (B + 1 ≡ X + e)).
      ⊎_elim
      (λ (s : (s : ℕ) × (s < 3) × (C + 1 ≡ Y + s)). step_placed i j e.0 s.0 e.1 s.1 b c e.2 s.2)
      (λ (a : Apart Y C). away (sons_only C Y c (row_lt (path_to T n p) quadrants) a) (far_down level X Y i j a))
      (step_or_apart Y C))
      (λ (a : Apart X B). away (sons_only B X b (column_lt (path_to T n p) quadrants) a) (far_across level X Y i j a))
      (step_or_apart X B)
    where
      quadrants : Quadrants (path_to T n p)
      quadrants = own_quadrants n T acc p lt

      -- the sheet has one block of its own size
      sons_only : (B A : ℕ) → B < 2 ^ depth → A < 2 ^ depth → Apart A B → 0 < p
      sons_only B A b a h =
          ⊎_elim
          (λ (z : p ≡ 0).
          let e : depth ≡ 0 = rw (z, path_root T n) in
          let one : 2 ^ depth ≡ 1 = rw e in
          ⊎_elim (λ (k : A + 2 ≤ B). absurd (omega arith)) (λ (k : B + 2 ≤ A). absurd (omega arith)) h)
          (λ (pos : 0 < p). pos)
          (eq-zero-or-pos p)

      step_placed : (i j e s : ℕ) → e < 3 → s < 3 → i / 2 ^ level < 2 ^ depth → j / 2 ^ level < 2 ^ depth → i / 2 ^ level + 1 ≡ X + e → j / 2 ^ level + 1 ≡ Y + s → Placed i j
      step_placed i j e s e3 s3 b c ee es =
          ⊎_elim
          (λ (h : eqb e 1 && eqb s 1 ≡ true).
          let e1 = eqb-true e 1 (and_left (eqb e 1) (eqb s 1) h) in
          let s1 = eqb-true s 1 (and_right (eqb e 1) (eqb s 1) h) in
          own (omega arith) (omega arith))
          (λ (h : eqb e 1 && eqb s 1 ≡ false).
          let w = way e s e3 s3 (λ x y. true≢false (sym (rw (eq-eqb e 1 x, eq-eqb s 1 y)) ∙ h)) in
          beside_it w.D w.below (record { across = b; down = c; east = rw w.across ee; south = rw w.down es }))
          (by_bool (eqb e 1 && eqb s 1))
