-- The leaf at a corner: the pixel at corner C of a block is the block at the end of its path and as many C as the block
-- has levels below it. Moved in direction D, C being at an end of that side or in that diagonal, each C becomes the
-- mirrored one, and the rest of the path moves as the block does.
use mathlib.Core.Bool.{true, false}
use mathlib.Core.List.{List, ◌∷◌}
use mathlib.Core.Logic.{⊎_elim}
use mathlib.Core.Path.{◌≡◌, refl, ap, sym, ◌∙◌}
use Prim.Native.Nat.{ℕ, zero, suc, ◌+◌, ◌-◌, ◌*◌, ◌/◌, ◌%◌, ◌^◌, ◌<◌}
use native.Mathlib.Nat.{pow-succ', mul_left_comm}
use native.Mathlib.Omega.{arith}
use lib.Dec.{eqb}
use lib.ListN.{length}
use lib.Pow.{pow_pos}
use borrow.Author.Tests.{lt-ltb, eqb-true}
use Rattle.std.proofs.Common.{Some, None}
use Rattle.base.proofs.AllLaws.{all_at}
use Rattle.base.proofs.BoolLaws.{by_bool}
use Rattle.quad.specs.Block.{column, row, Quadrants}
use Rattle.quad.specs.Direction.{adj_of, diagonal}
use Rattle.table.specs.Table.{nodes, son, is_fork}
use Rattle.table.specs.Rules.{Accepted}
use Rattle.table.specs.Nodes.{path_to, holder, level_of}
use Rattle.table.proofs.AcceptedLaws.{depth_le, depth_son, fork_deep}
use Rattle.table.proofs.HolderLaws.{held, own_quadrants, own_depth}
use Rattle.neighbour.specs.Neighbour.{neighbour_found, leaf_beyond, found_at, At}
use Rattle.neighbour.specs.declared.Found.{Found}
use Rattle.neighbour.specs.Search.{onward_of, mirror_of, Where, off, block, inner, moved, step_to, corner_down, corner_under, corner_at, Cornered}
use Rattle.neighbour.proofs.AtLaws.{one_node}
use Rattle.neighbour.proofs.SearchLaws.{MovedTo, moved_to, steers, held_by, beside_moved}

-- the path of the block at corner C of the block at the end of π, k levels down
corners : ℕ → ℕ → List ℕ → List ℕ
corners C zero π = π
corners C (suc k) π = C ∷ corners C k π

corners_length : (C k : ℕ) (π : List ℕ) → length (corners C k π) ≡ k + length π
unfolding corners
corners_length C zero π = omega arith
corners_length C (suc k) π = omega (arith, corners_length C k π)

corners_quadrants : (C k : ℕ) (π : List ℕ) → C < 4 → Quadrants π → Quadrants (corners C k π)
unfolding corners Quadrants
corners_quadrants C zero π h q = q
corners_quadrants C (suc k) π h q = (h, corners_quadrants C k π h q)

-- its column: the block's, in pixels, and to the east end of it if C is eastern
bit_down : (b x w : ℕ) → b < 2 → 0 < w → b + 2 * (x * w + b * (w - 1)) ≡ x * (2 * w) + b * (2 * w - 1)
bit_down zero x w h pos = omega (arith, mul_left_comm x 2 w)
bit_down (suc zero) x w h pos = omega (arith, mul_left_comm x 2 w)
bit_down (suc (suc b)) x w h pos = absurd (omega arith)

corners_column : (C k : ℕ) (π : List ℕ) → C < 4 → column (corners C k π) ≡ column π * 2 ^ k + C % 2 * (2 ^ k - 1)
unfolding corners column
corners_column C zero π h = omega arith
corners_column C (suc k) π h = rw (corners_column C k π h, pow-succ' 2 k) (bit_down (C % 2) (column π) (2 ^ k) (omega arith) (pow_pos k))

corners_row : (C k : ℕ) (π : List ℕ) → C < 4 → row (corners C k π) ≡ row π * 2 ^ k + C / 2 * (2 ^ k - 1)
unfolding corners row
corners_row C zero π h = omega arith
corners_row C (suc k) π h = rw (corners_row C k π h, pow-succ' 2 k) (bit_down (C / 2) (row π) (2 ^ k) (omega arith) (pow_pos k))

-- a block's corner k levels down
deepen : ℕ → ℕ → Where → Where
deepen c zero w = w
deepen c (suc k) w = inner c (deepen c k w)

deepen_off : (c k : ℕ) → deepen c k off ≡ off
unfolding deepen inner
deepen_off c zero = refl
deepen_off c (suc k) = rw (deepen_off c k)

deepen_block : (c k : ℕ) (ρ : List ℕ) → deepen c k (block ρ) ≡ block (corners c k ρ)
unfolding deepen inner corners
deepen_block c zero ρ = refl
deepen_block c (suc k) ρ = rw (deepen_block c k ρ)

-- the moved corner is the mirrored corner of the moved block
corners_moved : (D C k : ℕ) (π : List ℕ) → onward_of D C ≡ D → moved D (corners C k π) ≡ deepen (mirror_of D C) k (moved D π)
unfolding corners deepen moved
corners_moved D C zero π on = refl
corners_moved D C (suc k) π on = rw (on, corners_moved D C k π on)

module _ (T : List ℕ) where
  corners_holder : (c k : ℕ) (ρ : List ℕ) → holder T (corners c k ρ) ≡ corner_down T c k (holder T ρ)
  unfolding corners holder corner_down
  corners_holder c zero ρ = refl
  corners_holder c (suc k) ρ = rw (corners_holder c k ρ)

  -- the first step, and then the others
  down_first : (q k p : ℕ) → corner_down T q (suc k) p ≡ corner_down T q k (step_to T q p)
  unfolding corner_down
  down_first q zero p = refl
  down_first q (suc k) p = rw (← down_first q k p)

  -- a leaf stays
  pub down_still : (q k p : ℕ) → is_fork T p ≡ false → corner_down T q k p ≡ p
  unfolding corner_down
  down_still q zero p f = refl
  down_still q (suc k) p f = rw (down_still q k p f, f)

-- the loop of the descent: a fork's corner is its son's, one level below it; a leaf's is itself
module _ (n : ℕ) (T : List ℕ) (acc : Accepted n T) (q p : ℕ) where
  pub level_down : p < nodes T → q < 4 → is_fork T p ≡ true → level_of n T p ≡ suc (level_of n T (son T p q))
  level_down lt q4 f = omega (arith, fork_deep n T acc p lt f, depth_son n T acc p q lt f q4)

  pub corner_fork : p < nodes T → q < 4 → is_fork T p ≡ true → corner_under n T q (son T p q) ≡ corner_under n T q p
  unfolding corner_under
  corner_fork lt q4 f = rw (level_down lt q4 f, down_first T q (level_of n T (son T p q)) p, f)

  pub corner_leaf : (m its : ℕ) → is_fork T p ≡ false → its ≡ level_of n T p → corner_under n T q p ≡ m → found_at p its ≡ found_at m (level_of n T m)
  unfolding corner_under
  corner_leaf m its f e u =
      let is : p ≡ m = sym (down_still T q (level_of n T p) p f) ∙ u in
      rw (e, is)

-- a corner that a side has at one end, and a corner in its own diagonal, go on in that direction
pub side_on : (D C : ℕ) → D < 4 → adj_of D C ≡ true → onward_of D C ≡ D
unfolding onward_of
side_on D C lt e = rw (onward_of, lt-ltb D 4 lt, e)

pub diagonal_on : (C : ℕ) → C < 4 → onward_of (diagonal C) C ≡ diagonal C
unfolding onward_of
diagonal_on C lt = eqb-true _ _ (all_at (λ (C : ℕ). eqb (onward_of (diagonal C) C) (diagonal C)) 4 refl C lt)

module _ (n : ℕ) (T : List ℕ) (p D C : ℕ) (z : Cornered n T p D C) where
  acc : Accepted n T
  acc = z.accepted

  path : Quadrants (path_to T n p)
  path = own_quadrants n T z.accepted p z.node

  landed : MovedTo D (path_to T n p) (moved D (path_to T n p))
  landed = moved_to D (path_to T n p) (omega (arith, z.way)) path

  -- the neighbour, and the pixel beyond the corner, by the moves
  found_moved : neighbour_found n T p D ≡ held_by n T (moved D (path_to T n p))
  unfolding neighbour_found
  found_moved = beside_moved n T D (path_to T n p) (omega (arith, z.way)) path

  beyond_moved : leaf_beyond n T p C D ≡ held_by n T (deepen (mirror_of D C) (level_of n T p) (moved D (path_to T n p)))
  beyond_moved =
      let π = path_to T n p in
      let k : ℕ = level_of n T p in
      let κ = corners C k π in
      let size : length κ ≡ n = omega (arith, corners_length C k π, own_depth n T acc p z.node, depth_le T n p) in
      let b = beside_moved n T D κ (omega (arith, z.way)) (corners_quadrants C k π z.corner path) in
      rw (size, corners_column C k π z.corner, corners_row C k π z.corner, corners_moved D C k π z.on) at b

  -- a neighbour of p's own size has p's levels below it, and a larger one is a leaf
  as_deep : (ρ : List ℕ) → Quadrants ρ → length ρ ≡ length (path_to T n p)
      → corner_under n T (mirror_of D C) (holder T ρ) ≡ corner_down T (mirror_of D C) (level_of n T p) (holder T ρ)
  unfolding corner_under
  as_deep ρ h s =
      let c : ℕ = mirror_of D C in
      ⊎_elim
      (λ (f : is_fork T (holder T ρ) ≡ true).
      let e : level_of n T (holder T ρ) ≡ level_of n T p = omega (arith, (held n T acc ρ h).full f, own_depth n T acc p z.node) in
      rw e)
      (λ (f : is_fork T (holder T ρ) ≡ false). down_still T c (level_of n T (holder T ρ)) (holder T ρ) f ∙ sym (down_still T c (level_of n T p) (holder T ρ) f))
      (by_bool (is_fork T (holder T ρ)))

  -- what the corner calls owe, from what the search found
  down_at : (w : Where) → MovedTo D (path_to T n p) w → (m l : ℕ) → held_by n T w ≡ At m l
      → Some (corner_at n T (mirror_of D C) m) ≡ held_by n T (deepen (mirror_of D C) (level_of n T p) w)
  unfolding MovedTo held_by
  down_at off d m l e = cc
  down_at (block ρ) d m l e =
      let c : ℕ = mirror_of D C in
      let k : ℕ = level_of n T p in
      let em : holder T ρ ≡ m = one_node e in
      rw (deepen_block c k ρ, held_by, corners_holder T c k ρ, ← em) (ap (λ (m : ℕ). At m (level_of n T m)) (as_deep ρ d.quadrants d.size))

  pub beyond_at : (m l q : ℕ) (r : Found) → neighbour_found n T p D ≡ At m l → q ≡ mirror_of D C → r ≡ corner_at n T q m → Some r ≡ leaf_beyond n T p C D
  beyond_at m l q r e eq er = rw (er, eq) (down_at (moved D (path_to T n p)) landed m l (sym found_moved ∙ e) ∙ sym beyond_moved)

  off_at : (w : Where) → held_by n T w ≡ None → None ≡ held_by n T (deepen (mirror_of D C) (level_of n T p) w)
  unfolding held_by
  off_at off e = rw (deepen_off (mirror_of D C) (level_of n T p))
  off_at (block ρ) e = cc

  pub beyond_off : neighbour_found n T p D ≡ None → None ≡ leaf_beyond n T p C D
  beyond_off e = off_at (moved D (path_to T n p)) (sym found_moved ∙ e) ∙ sym beyond_moved

  pub mirror_small : mirror_of D C < 4
  mirror_small = (steers D C (omega (arith, z.way)) z.corner).small

  -- where the neighbour is a leaf, it is the leaf beyond the corner too
  leaf_at_lem : (w : Where) (m l : ℕ) → is_fork T m ≡ false → held_by n T w ≡ At m l → held_by n T (deepen (mirror_of D C) (level_of n T p) w) ≡ At m l
  unfolding held_by
  leaf_at_lem off m l f e = cc
  leaf_at_lem (block ρ) m l f e =
      let c : ℕ = mirror_of D C in
      let k : ℕ = level_of n T p in
      let em : holder T ρ ≡ m = one_node e in
      let still : corner_down T c k (holder T ρ) ≡ holder T ρ = down_still T c k (holder T ρ) (rw em f) in
      rw (deepen_block c k ρ, held_by, corners_holder T c k ρ, still) e

  pub beyond_leaf_neighbour : (m l : ℕ) → is_fork T m ≡ false → neighbour_found n T p D ≡ At m l → leaf_beyond n T p C D ≡ At m l
  beyond_leaf_neighbour m l f e = beyond_moved ∙ leaf_at_lem (moved D (path_to T n p)) m l f (sym found_moved ∙ e)
