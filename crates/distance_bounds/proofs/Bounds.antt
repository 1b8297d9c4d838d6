-- How far it is: on a sheet with a white pixel every black leaf of side w gets from w to 3w - 2, an even amount above
-- w; a lone black root gets the mark; and a sheet with no white pixel has one node (document 01, 'Distance').
use mathlib.Core.List.{List}
use mathlib.Core.Logic.{⊎_elim}
use mathlib.Core.Path.{◌≡◌, refl, sym, ◌∙◌}
use Prim.Native.Nat.{ℕ, ◌-◌, ◌*◌, ◌%◌, ◌≤◌, ◌<◌}
use native.Mathlib.Nat.{eq-zero-or-pos}
use native.Mathlib.Omega.{arith}
use Rattle.quad.specs.Numbers.{black, none}
use Rattle.quad.specs.Tree.{leaf, size_of}
use Rattle.quad.proofs.PictureLaws.{pixel_lt}
use Rattle.table.specs.Table.{nodes, node_type}
use Rattle.table.specs.Rules.{Accepted}
use Rattle.table.specs.Nodes.{pixel, tree_at, side_of}
use Rattle.table.proofs.PictureLaws.{sheet_sound, pixel_shade}
use Rattle.table.proofs.SizeLaws.{tree_size}
use Rattle.distance.specs.Distance.{plain_outside, distance_at}
use Rattle.distance.proofs.NearestLaws.{White}
use Rattle.distance.proofs.WhiteLaws.{HasWhite, black_or_white}
use Rattle.distance_fill.proofs.LeafLaws.{father_small, leaf_nearest, no_white, root_nearest}
use Rattle.distance_fill.proofs.AroundLaws.{black_nearest}
use Rattle.distance_bounds.proofs.TheoremOne.{black_leaf, black_dark}

-- from w to 3w - 2, an even amount above w
pub record Between (w v : ℕ) : Type 0 where
  pub low : w ≤ v
  pub high : v ≤ 3 * w - 2
  pub even : (v - w) % 2 ≡ 0

pub between : (n : ℕ) (T : List ℕ) → Accepted n T → (p : ℕ) → p < nodes T → node_type T p ≡ black
    → (i j : ℕ) → White n (pixel n T) i j → Between (side_of n T p) (distance_at plain_outside n T p)
between n T acc p lt b i j w =
    let f = black_leaf T p b in
    let d = black_dark T p b in
    ⊎_elim (λ (root : p ≡ 0). absurd (no_white n T acc p lt f d root i j w))
    (λ (pos : 0 < p).
    let small = father_small n T acc p lt f d pos in
    let v = black_nearest n T p f d ∙ leaf_nearest n T acc p lt f d pos in
    record { low = omega arith; high = omega arith; even = omega arith })
    (eq-zero-or-pos p)

pub lone_black : (n : ℕ) (T : List ℕ) → Accepted n T → node_type T 0 ≡ black → distance_at plain_outside n T 0 ≡ none
lone_black n T acc b =
    let f = black_leaf T 0 b in
    let d = black_dark T 0 b in
    black_nearest n T 0 f d ∙ root_nearest n T acc 0 acc.sized.some f d refl

pub one_node : (n : ℕ) (T : List ℕ) → Accepted n T → ((i j : ℕ) → White n (pixel n T) i j → ⊥) → nodes T ≡ 1
one_node n T acc h =
    let s = sheet_sound n T acc in
    ⊎_elim
    (λ (e : tree_at T n 0 ≡ leaf black). sym (tree_size n T acc) ∙ rw e (unfold size_of in refl))
    (λ (w : HasWhite n (tree_at T n 0) 0 0).
    absurd (h w.x w.y (record { across = pixel_lt n w.x w.column; down = pixel_lt n w.y w.row; colour = pixel_shade n T w.x w.y ∙ w.colour })))
    (black_or_white n (tree_at T n 0) 0 0 s.within s.reduced s.coloured)
