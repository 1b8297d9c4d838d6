-- The search takes a fork's quarters nearest first: the lower bounds of the four, in the code's order, never fall
-- (document 001, section V).
use mathlib.Core.Bool.{true, false, cond}
use mathlib.Core.Logic.{⊎_elim}
use mathlib.Core.Path.{◌≡◌, refl}
use Prim.Native.Nat.{ℕ, ◌+◌, ◌-◌, ◌*◌, ◌/◌, ◌%◌, ◌≤◌, ◌<◌, max}
use native.Mathlib.Omega.{arith}
use lib.Dec.{eqb}
use borrow.Author.Tests.{eq-eqb, ne_eqb}
use Rattle.base.proofs.BoolLaws.{by_bool}
use Rattle.base.proofs.CaseLaws.{cond_case}
use Rattle.distance_seek.specs.Search.{near_half, farther_by, near_quarter, next_quarter}
use Rattle.distance_seek.proofs.SearchLaws.{near_half_lt}

-- the far half lies w farther on, unless the step stays
abbrev pub stride : ℕ → ℕ → ℕ
stride step w = cond (eqb step 1) 0 w

near_none : (step half w : ℕ) → half ≡ near_half step → farther_by step half w ≡ 0
unfolding farther_by
near_none step half w e = ⊎_elim (λ (h : eqb step 1 ≡ true). rw h) (λ (h : eqb step 1 ≡ false). rw (h, eq-eqb half (near_half step) e)) (by_bool (eqb step 1))

far_stride : (step half w : ℕ) → half ≡ 1 - near_half step → farther_by step half w ≡ stride step w
unfolding farther_by
far_stride step half w e =
    let l = near_half_lt step in
    ⊎_elim (λ (h : eqb step 1 ≡ true). rw h) (λ (h : eqb step 1 ≡ false). rw (h, ne_eqb half (near_half step) (λ q. omega arith))) (by_bool (eqb step 1))

stride_le : (step w : ℕ) → stride step w ≤ w
stride_le step w = cond_case (λ (m : ℕ). m ≤ w) (eqb step 1) 0 w (λ e. omega arith) (λ e. omega arith)

pub record NearestFirst (bound : ℕ → ℕ) (near next : ℕ) : Type 0 where
  pub first : bound near ≤ bound next
  pub second : bound next ≤ bound (3 - next)
  pub third : bound (3 - next) ≤ bound (3 - near)

module _ (east south at w : ℕ) where
  abbrev x : ℕ
  x = near_half east

  abbrev y : ℕ
  y = near_half south

  -- the lower bound of quarter q of a fork whose near edges lie at one offset, the quarters being w wide
  unfoldable pub quarter_bound : ℕ → ℕ
  quarter_bound q = max (at + farther_by east (q % 2) w) (at + farther_by south (q / 2) w)

  -- quarter q has its near edges at a and b
  pub record Edges (q a b : ℕ) : Type 0 where
    pub across : at + farther_by east (q % 2) w ≡ a
    pub down : at + farther_by south (q / 2) w ≡ b

  pub edges_bound : (q a b : ℕ) → Edges q a b → quarter_bound q ≡ max a b
  unfolding quarter_bound
  edges_bound q a b e = rw (quarter_bound, e.across, e.down)

  -- the quarter of column half i and row half j
  at_halves : (i j a b q : ℕ) → i < 2 → q ≡ i + 2 * j → at + farther_by east i w ≡ a → at + farther_by south j w ≡ b → Edges q a b
  at_halves i j a b q h e ea eb =
      let ei : q % 2 ≡ i = omega arith in
      let ej : q / 2 ≡ j = omega arith in
      record { across = rw ei ea; down = rw ej eb }

  near_across : at + farther_by east x w ≡ at
  near_across = omega (arith, near_none east x w refl)

  near_down : at + farther_by south y w ≡ at
  near_down = omega (arith, near_none south y w refl)

  far_across : at + farther_by east (1 - x) w ≡ at + stride east w
  far_across = rw (far_stride east (1 - x) w refl)

  far_down : at + farther_by south (1 - y) w ≡ at + stride south w
  far_down = rw (far_stride south (1 - y) w refl)

  pub at_near : (q : ℕ) → q ≡ x + 2 * y → Edges q at at
  at_near q e = at_halves x y at at q (near_half_lt east) e near_across near_down

  pub at_across : (q : ℕ) → q ≡ 1 - x + 2 * y → Edges q (at + stride east w) at
  at_across q e = at_halves (1 - x) y (at + stride east w) at q (omega arith) e far_across near_down

  pub at_down : (q : ℕ) → q ≡ x + 2 * (1 - y) → Edges q at (at + stride south w)
  at_down q e = at_halves x (1 - y) at (at + stride south w) q (near_half_lt east) e near_across far_down

  pub at_far : (q : ℕ) → q ≡ 1 - x + 2 * (1 - y) → Edges q (at + stride east w) (at + stride south w)
  at_far q e = at_halves (1 - x) (1 - y) (at + stride east w) (at + stride south w) q (omega arith) e far_across far_down

  pub nearest_first : NearestFirst quarter_bound (near_quarter east south) (next_quarter east south)
  unfolding near_quarter next_quarter
  nearest_first =
      let hx = near_half_lt east in
      let hy = near_half_lt south in
      let near : ℕ = x + 2 * y in
      let across : ℕ = 1 - x + 2 * y in
      let down : ℕ = x + 2 * (1 - y) in
      let n₀ = edges_bound near at at (at_near near refl) in
      let n₃ = edges_bound (3 - near) (at + stride east w) (at + stride south w) (at_far (3 - near) (omega arith)) in
      ⊎_elim
      (λ (e : eqb east 1 ≡ true).
      let n₁ = edges_bound across (at + stride east w) at (at_across across refl) in
      let n₂ = edges_bound (3 - across) at (at + stride south w) (at_down (3 - across) (omega arith)) in
      rw (next_quarter, e) (record { first = rw (n₀, n₁) (omega arith); second = rw (n₁, n₂, e) (omega arith); third = rw (n₂, n₃) (omega arith) }))
      (λ (e : eqb east 1 ≡ false).
      let n₁ = edges_bound down at (at + stride south w) (at_down down refl) in
      let n₂ = edges_bound (3 - down) (at + stride east w) at (at_across (3 - down) (omega arith)) in
      rw (next_quarter, e) (record { first = rw (n₀, n₁) (omega arith); second = rw (n₁, n₂, e) (omega (arith, stride_le south w)); third = rw (n₂, n₃) (omega arith) }))
      (by_bool (eqb east 1))
