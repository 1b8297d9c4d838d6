-- The moves of document 000 lead to the block that lies in that direction: one computed test over the four tables, nine
-- directions and four quadrants, then an induction along the path. Sides and corners are one.
use mathlib.Core.Bool.{Bool, true, false, not, ◌&&◌, ◌||◌, false≢true}
use mathlib.Core.List.{List, [], ◌∷◌}
use mathlib.Core.Logic.{⊎_elim}
use mathlib.Core.Path.{◌≡◌, refl, ap, sym, ◌∙◌}
use Prim.Native.Nat.{ℕ, suc, ◌+◌, ◌-◌, ◌*◌, ◌/◌, ◌%◌, ◌^◌, ◌≤◌, ◌<◌}
use native.Mathlib.Nat.{pow-succ', eq-or-lt_of_le}
use native.Mathlib.Omega.{arith}
use lib.Dec.{leb, ltb, eqb}
use lib.ListN.{length}
use borrow.Author.Tests.{eq-eqb, ne_eqb, eqb-true, ltb-true, leb-true, lt-ltb, le-ltb, le-leb}
use Rattle.base.specs.All.{all, all2}
use Rattle.base.proofs.AllLaws.{all_at, all2_at}
use Rattle.base.proofs.BoolLaws.{and_left, and_right, or_second}
use Rattle.base.proofs.CaseLaws.{at_ne}
use Rattle.quad.specs.Block.{column, row, Quadrants}
use Rattle.quad.specs.Direction.{east_step, south_step, stays, opquad_of, common_side_of}
use Rattle.quad.proofs.PathLaws.{column_lt, row_lt, path_back}
use Rattle.neighbour.specs.declared.Found.{Found}
use Rattle.std.proofs.Common.{Option, None}
use Rattle.neighbour.specs.Neighbour.{held_at, beside}
use Rattle.neighbour.specs.Search.{stay, onward_of, mirror_of, Where, off, block, inner, moved}

-- no undefined entry of COMMONSIDE is read: where the quadrant is neither the corner nor the one opposite, the two
-- share a side
pub side_defined : (q C : ℕ) → q < 4 → C < 4 → (q ≡ opquad_of C → ⊥) → (q ≡ C → ⊥) → common_side_of q C < 4
side_defined q C hq hC o e =
    let defined : ℕ → ℕ → Bool = λ q C. eqb q (opquad_of C) || (eqb q C || ltb (common_side_of q C) 4) in
    let t = all2_at defined 4 4 refl q C hq hC in
    let u = or_second (eqb q (opquad_of C)) (eqb q C || ltb (common_side_of q C) 4) t (ne_eqb q (opquad_of C) o) in
    ltb-true _ _ (or_second (eqb q C) (ltb (common_side_of q C) 4) u (ne_eqb q C e))

-- the tests of the code, one after the other, at a corner
module _ (D q o : ℕ) (corner : 4 ≤ D) (small : D < stay) (eo : o ≡ opquad_of (D - 4)) where
  pub onward_opposite : q ≡ o → stay ≡ onward_of D q
  unfolding onward_of
  onward_opposite e = rw (onward_of, le-ltb D 4 corner, lt-ltb D stay small, eq-eqb q (opquad_of (D - 4)) (e ∙ eo))

  pub onward_corner : (q ≡ o → ⊥) → q ≡ D - 4 → D ≡ onward_of D q
  unfolding onward_of
  onward_corner h e = rw (onward_of, le-ltb D 4 corner, lt-ltb D stay small, ne_eqb q (opquad_of (D - 4)) (λ z. h (z ∙ sym eo)), eq-eqb q (D - 4) e)

  pub onward_shared : (s : ℕ) → (q ≡ o → ⊥) → (q ≡ D - 4 → ⊥) → s ≡ common_side_of q (D - 4) → s ≡ onward_of D q
  unfolding onward_of
  onward_shared s h g e =
      rw (onward_of, le-ltb D 4 corner, lt-ltb D stay small, ne_eqb q (opquad_of (D - 4)) (λ z. h (z ∙ sym eo)))
      (at_ne q (D - 4) s D (common_side_of q (D - 4)) g e)

-- the rule of the four tables, as one test: two moves of the father's size, and the quadrant's own place, are one move
-- of the quadrant's size
steer_ok : ℕ → ℕ → Bool
steer_ok D q =
    let r = mirror_of D q in
    let m = onward_of D q in
    ltb r 4
    && (leb m stay
    && (eqb (q % 2 + east_step D + 2) (1 + r % 2 + 2 * east_step m) && eqb (q / 2 + south_step D + 2) (1 + r / 2 + 2 * south_step m)))

steer_all : all2 steer_ok 9 4 ≡ true
unfolding steer_ok mirror_of onward_of east_step south_step
steer_all = refl

pub record Steers (D q : ℕ) : Type 0 where
  pub small : mirror_of D q < 4
  pub way : onward_of D q ≤ stay
  pub east : q % 2 + east_step D + 2 ≡ 1 + mirror_of D q % 2 + 2 * east_step (onward_of D q)
  pub south : q / 2 + south_step D + 2 ≡ 1 + mirror_of D q / 2 + 2 * south_step (onward_of D q)

pub steers : (D q : ℕ) → D ≤ stay → q < 4 → Steers D q
unfolding steer_ok
steers D q le lt =
    let v : steer_ok D q ≡ true = all2_at steer_ok 9 4 steer_all D q (omega arith) lt in
    let r = mirror_of D q in
    let m = onward_of D q in
    let e = eqb (q % 2 + east_step D + 2) (1 + r % 2 + 2 * east_step m) in
    let s = eqb (q / 2 + south_step D + 2) (1 + r / 2 + 2 * south_step m) in
    let v₁ = and_right (ltb r 4) (leb m stay && (e && s)) v in
    let v₂ = and_right (leb m stay) (e && s) v₁ in
    record {
      small = ltb-true _ _ (and_left (ltb r 4) (leb m stay && (e && s)) v);
      way = leb-true _ _ (and_left (leb m stay) (e && s) v₁);
      east = eqb-true _ _ (and_left e s v₂);
      south = eqb-true _ _ (and_right e s v₂);
    }

-- the eight directions move, and the ninth does not
moves : all (λ D. not (eqb (east_step D) 1 && eqb (south_step D) 1)) 8 ≡ true
unfolding east_step south_step
moves = refl

pub must_move : (D : ℕ) → D < stay → east_step D ≡ 1 → south_step D ≡ 1 → ⊥
must_move D lt x y =
    let w = all_at (λ (D : ℕ). not (eqb (east_step D) 1 && eqb (south_step D) 1)) 8 moves D lt in
    false≢true (rw (eq-eqb (east_step D) 1 x, eq-eqb (south_step D) 1 y) at w)

stay_still : (east_step stay ≡ 1) × (south_step stay ≡ 1)
unfolding east_step south_step
stay_still = (refl, refl)

pub moved_stay : (π : List ℕ) → moved stay π ≡ block π
unfolding moved inner onward_of mirror_of
moved_stay [] = refl
moved_stay (q ∷ qs) = rw (moved_stay qs)

-- ρ is the block of π's size that lies in direction D of it
pub record Beside (D : ℕ) (π ρ : List ℕ) : Type 0 where
  pub quadrants : Quadrants ρ
  pub size : length ρ ≡ length π
  pub east : column ρ + 1 ≡ column π + east_step D
  pub south : row ρ + 1 ≡ row π + south_step D

-- a column or row x of 2 ^ d, moved by s - 1, stays on the sheet
pub record Stays (d x s : ℕ) : Type 0 where
  pub low : 0 < x + s
  pub high : x + s ≤ 2 ^ d

unfoldable pub MovedTo : ℕ → List ℕ → Where → Type 0
MovedTo D π off = Stays (length π) (column π) (east_step D) → Stays (length π) (row π) (south_step D) → ⊥
MovedTo D π (block ρ) = Beside D π ρ

step : (D q : ℕ) (qs : List ℕ) (w : Where) → q < 4 → Steers D q → MovedTo (onward_of D q) qs w → MovedTo D (q ∷ qs) (inner (mirror_of D q) w)
unfolding MovedTo inner column row Quadrants
step D q qs off q4 s m = λ a b.
    let p = pow-succ' 2 (length qs) in
    m (record { low = omega (arith, s, a); high = omega (arith, s, a) }) (record { low = omega (arith, s, b); high = omega (arith, s, b) })
step D q qs (block ρ) q4 s m = record {
  quadrants = (s.small, m.quadrants);
  size = ap suc m.size;
  east = omega (arith, s, m);
  south = omega (arith, s, m);
}

pub moved_to : (D : ℕ) (π : List ℕ) → D ≤ stay → Quadrants π → MovedTo D π (moved D π)
unfolding moved column row Quadrants
moved_to D [] le h =
    ⊎_elim
    (λ (e : D ≡ stay).
    rw (eq-eqb D stay e)
    (unfold MovedTo in rw e (record { quadrants = tt; size = refl; east = omega (arith, stay_still); south = omega (arith, stay_still) })))
    (λ (l : D < stay). rw (ne_eqb D stay (λ e. omega arith)) (unfold MovedTo in (λ a b. must_move D l (omega arith) (omega arith))))
    (eq-or-lt_of_le le)
moved_to D (q ∷ qs) le h =
    let s = steers D q le h.0 in
    step D q qs (moved (onward_of D q) qs) h.0 s (moved_to (onward_of D q) qs s.way h.1)

and_no : (a b : Bool) → (a ≡ true → b ≡ true → ⊥) → a && b ≡ false
and_no true true h = absurd (h refl refl)
and_no true false h = refl
and_no false b h = refl

pub stays_of : (d x s : ℕ) → stays (2 ^ d) x s ≡ true → Stays d x s
stays_of d x s e = record {
  low = ltb-true _ _ (and_left (ltb 0 (x + s)) (leb (x + s) (2 ^ d)) e);
  high = leb-true _ _ (and_right (ltb 0 (x + s)) (leb (x + s) (2 ^ d)) e);
}

pub stays_both : (d x s : ℕ) → Stays d x s → stays (2 ^ d) x s ≡ true
stays_both d x s h = rw (lt-ltb 0 (x + s) h.low, le-leb (x + s) (2 ^ d) h.high)

-- where the moved column or row is y
stays_at : (d x s y : ℕ) → y < 2 ^ d → y + 1 ≡ x + s → stays (2 ^ d) x s ≡ true
stays_at d x s y lt e = stays_both d x s (record { low = omega arith; high = omega arith })

-- the smallest node that contains a block and its level, or none
unfoldable pub held_by : ℕ → List ℕ → Where → Option Found
held_by n T off = None
held_by n T (block ρ) = held_at n T ρ

beside_at : (n : ℕ) (T : List ℕ) (D : ℕ) (π : List ℕ) (w : Where) → MovedTo D π w → beside n T (length π) (column π) (row π) D ≡ held_by n T w
unfolding MovedTo beside held_by
beside_at n T D π off m =
    rw (and_no (stays (2 ^ length π) (column π) (east_step D)) (stays (2 ^ length π) (row π) (south_step D)) (λ a b. m (stays_of _ _ _ a) (stays_of _ _ _ b)))
beside_at n T D π (block ρ) m =
    let x = stays_at (length π) (column π) (east_step D) (column ρ) (rw (← m.size) (column_lt ρ m.quadrants)) m.east in
    let y = stays_at (length π) (row π) (south_step D) (row ρ) (rw (← m.size) (row_lt ρ m.quadrants)) m.south in
    let cx : column π + east_step D - 1 ≡ column ρ = omega (arith, m) in
    let cy : row π + south_step D - 1 ≡ row ρ = omega (arith, m) in
    rw (x, y, cx, cy, ← m.size, path_back ρ m.quadrants)

-- the geometry of blocks and the moves agree
pub beside_moved : (n : ℕ) (T : List ℕ) (D : ℕ) (π : List ℕ) → D ≤ stay → Quadrants π
    → beside n T (length π) (column π) (row π) D ≡ held_by n T (moved D π)
beside_moved n T D π le h = beside_at n T D π (moved D π) (moved_to D π le h)
