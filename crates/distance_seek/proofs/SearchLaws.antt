-- The search under a node: nothing there is nearer than its near edges, and the four quarters, taken in any order, are
-- the fork.
use mathlib.Core.Bool.{true, false}
use mathlib.Core.List.{List}
use mathlib.Core.Logic.{⊎_elim}
use mathlib.Core.Path.{◌≡◌, refl, ap, sym, ◌∙◌}
use Prim.Native.Nat.{ℕ, zero, suc, ◌+◌, ◌-◌, ◌*◌, ◌^◌, ◌≤◌, ◌<◌, min, max}
use native.Mathlib.Nat.{pow-succ', le_trans, le_antisymm, le-min, min-le_left, min-le_right, min-eq_left, max-le, le-max_left, le-max_right}
use native.Mathlib.Omega.{arith}
use lib.Dec.{eqb}
use borrow.Author.Tests.{eq-eqb, ne_eqb, eqb-true, eqb-false}
use Rattle.base.specs.Tab.{least}
use Rattle.base.proofs.BoolLaws.{by_bool}
use Rattle.base.proofs.CaseLaws.{cond_case}
use Rattle.base.proofs.LeastLaws.{least_le, least_ge}
use Rattle.quad.specs.Numbers.{white, none, fork_type}
use Rattle.quad.specs.Direction.{east_step, south_step}
use Rattle.table.specs.Table.{son, node_type, is_fork}
use Rattle.table.proofs.AcceptedLaws.{fork_above, son_at}
use Rattle.distance_seek.specs.Search.{near_half, near_quarter, next_quarter, leaf_offset, offset_under, offset_in, offset_from, Spot}

-- the next quarter shares a side with the nearest, so that these and the ones opposite are the four
pub near_half_lt : (step : ℕ) → near_half step < 2
near_half_lt step = cond_case (λ (m : ℕ). m < 2) (eqb step 0) 1 0 (λ e. omega arith) (λ e. omega arith)

pub record Pair (q r : ℕ) : Type 0 where
  pub first : q < 4
  pub second : r < 4
  pub apart : q ≡ r → ⊥
  pub adjacent : q + r ≡ 3 → ⊥

pub near_next : (east south : ℕ) → Pair (near_quarter east south) (next_quarter east south)
unfolding near_quarter next_quarter
near_next east south =
    let x = near_half_lt east in
    let y = near_half_lt south in
    cond_case (Pair (near_half east + 2 * near_half south)) (eqb east 1) (1 - near_half east + 2 * near_half south) (near_half east + 2 * (1 - near_half south))
    (λ e. record { first = omega arith; second = omega arith; apart = λ h. omega arith; adjacent = λ h. omega arith })
    (λ e. record { first = omega arith; second = omega arith; apart = λ h. omega arith; adjacent = λ h. omega arith })

pub near_lt : {q : ℕ} (east south : ℕ) → q ≡ near_quarter east south → q < 4
near_lt east south e = rw e (near_next east south).first

pub next_lt : {q : ℕ} (east south : ℕ) → q ≡ next_quarter east south → q < 4
next_lt east south e = rw e (near_next east south).second

-- what lies under a leaf, and under a fork
module _ (T : List ℕ) (east south : ℕ) where
  pub offset_leaf : (l p a b : ℕ) → is_fork T p ≡ false → offset_under T east south l p a b ≡ leaf_offset (node_type T p) a b
  unfolding offset_under
  offset_leaf zero p a b f = refl
  offset_leaf (suc l) p a b f = rw (f, offset_under)

  pub offset_zero : (p a b : ℕ) → offset_under T east south 0 p a b ≡ leaf_offset (node_type T p) a b
  unfolding offset_under
  offset_zero p a b = refl

  pub offset_fork : (l p a b : ℕ) → is_fork T p ≡ true → offset_under T east south (suc l) p a b ≡ least none (offset_in T east south l p a b) 4
  unfolding offset_under
  offset_fork l p a b f = rw (f, offset_under)

  -- nothing under p is nearer than its near edges
  leaf_bound : (c a b v : ℕ) → v ≤ none → v ≤ max a b → v ≤ leaf_offset c a b
  leaf_bound c a b v t h = cond_case (λ (m : ℕ). v ≤ m) (eqb c white) (max a b) none (λ e. h) (λ e. t)

  pub offset_bound : (l p a b v : ℕ) → v ≤ none → v ≤ max a b → v ≤ offset_under T east south l p a b
  offset_bound zero p a b v t h = rw (offset_zero p a b) (leaf_bound (node_type T p) a b v t h)
  offset_bound (suc l) p a b v t h =
      ⊎_elim
      (λ (f : is_fork T p ≡ true).
      rw (offset_fork l p a b f)
      (least_ge none (offset_in T east south l p a b) v 4 t (λ q q4.
      offset_bound l (son T p q) _ _ v t (le_trans h (max-le (le_trans (omega arith) (le-max_left _ _)) (le_trans (omega arith) (le-max_right _ _)))))))
      (λ (f : is_fork T p ≡ false). rw (offset_leaf (suc l) p a b f) (leaf_bound (node_type T p) a b v t h))
      (by_bool (is_fork T p))

-- a quarter that is neither of a pair, nor opposite the second, is opposite the first
fourth : (q r q' r' k : ℕ) → q + q' ≡ 3 → r + r' ≡ 3 → (q ≡ r → ⊥) → (q ≡ r' → ⊥) → (k ≡ q → ⊥) → (k ≡ r → ⊥) → (k ≡ r' → ⊥) → k < 4 → k ≡ q'
fourth q r q' r' k eq er h₁ h₂ h₃ h₄ h₅ k4 = omega arith

-- four values, taken one after the other: a pair of quarters, and the ones opposite
abbrev taken : (ℕ → ℕ) → ℕ → ℕ → ℕ → ℕ
taken f q r best = min (min (min (min best (f q)) (f r)) (f (3 - r))) (f (3 - q))

module _ (f : ℕ → ℕ) (q r : ℕ) (p : Pair q r) where
  of_four : (v : ℕ) → v ≤ f q → v ≤ f r → v ≤ f (3 - r) → v ≤ f (3 - q) → (k : ℕ) → k < 4 → v ≤ f k
  of_four v hq hr hr' hq' k k4 =
      ⊎_elim (λ (e : eqb k q ≡ true). rw (eqb-true k q e) hq)
      (λ (nq : eqb k q ≡ false).
      ⊎_elim (λ (e : eqb k r ≡ true). rw (eqb-true k r e) hr)
      (λ (nr : eqb k r ≡ false).
      ⊎_elim (λ (e : eqb k (3 - r) ≡ true). rw (eqb-true k (3 - r) e) hr')
      (λ (nr' : eqb k (3 - r) ≡ false).
      let q4 = p.first in
      let r4 = p.second in
      let adjacent : q ≡ 3 - r → ⊥ = λ e. p.adjacent (omega arith) in
      rw (fourth q r (3 - q) (3 - r) k (omega arith) (omega arith) p.apart adjacent (eqb-false k q nq) (eqb-false k r nr) (eqb-false k (3 - r) nr') k4) hq')
      (by_bool (eqb k (3 - r))))
      (by_bool (eqb k r)))
      (by_bool (eqb k q))

  pub four_quarters : (best : ℕ) → best ≤ none → taken f q r best ≡ min best (least none f 4)
  four_quarters best t =
      let m₁ : ℕ = min best (f q) in
      let m₂ : ℕ = min m₁ (f r) in
      let m₃ : ℕ = min m₂ (f (3 - r)) in
      let l₃ = min-le_left m₃ (f (3 - q)) in
      let l₂ = le_trans l₃ (min-le_left m₂ (f (3 - r))) in
      let l₁ = le_trans l₂ (min-le_left m₁ (f r)) in
      let l₀ = le_trans l₁ (min-le_left best (f q)) in
      let each = of_four (taken f q r best) (le_trans l₁ (min-le_right best (f q))) (le_trans l₂ (min-le_right m₁ (f r))) (le_trans l₃ (min-le_right m₂ (f (3 - r)))) (min-le_right m₃ (f (3 - q))) in
      let some : (k : ℕ) → k < 4 → min best (least none f 4) ≤ f k = λ k k4. le_trans (min-le_right best (least none f 4)) (least_le none f 4 k k4) in
      le_antisymm
      (le-min l₀ (least_ge none f (taken f q r best) 4 (le_trans l₀ t) each))
      (le-min (le-min (le-min (le-min (min-le_left best (least none f 4)) (some q p.first)) (some r p.second)) (some (3 - r) (omega arith))) (some (3 - q) (omega arith)))

-- a node in the code's hands: a white leaf, and a black one
module _ (T : List ℕ) (D l p at best kind : ℕ) (k : kind ≡ node_type T p) where
  pub at_white : at ≤ best → kind ≡ white → at ≡ min best (offset_from T D l p at)
  at_white h w =
      let z : node_type T p ≡ white = sym k ∙ w in
      let lf : is_fork T p ≡ false = ne_eqb (node_type T p) fork_type (λ q. omega arith) in
      rw (offset_leaf T (east_step D) (south_step D) l p at at lf, eq-eqb (node_type T p) white z) (omega arith)

  pub at_black : best ≤ none → (kind ≡ white → ⊥) → (kind ≡ fork_type → ⊥) → best ≡ min best (offset_from T D l p at)
  at_black t w g =
      let lf : is_fork T p ≡ false = ne_eqb (node_type T p) fork_type (λ q. g (k ∙ q)) in
      rw (offset_leaf T (east_step D) (south_step D) l p at at lf, ne_eqb (node_type T p) white (λ q. w (k ∙ q))) (sym (min-eq_left t))

-- a fork's quarters are nodes of the next level
module _ {T : List ℕ} {l p at : ℕ} (s : Spot T l p at) (f : is_fork T p ≡ true) where
  -- twice a quarter's side
  pub halves : 2 ^ l ≡ 2 * 2 ^ (l - 1)
  halves =
      let pos = fork_above s.place f in
      let e : l ≡ suc (l - 1) = omega arith in
      ap (λ (k : ℕ). 2 ^ k) e ∙ pow-succ' 2 (l - 1)

  pub spot_son : (q to : ℕ) → q < 4 → to ≤ at + 2 ^ (l - 1) → Spot T (l - 1) (son T p q) to
  spot_son q to q4 h =
      record { n = s.n; place = son_at s.place f q q4; room = omega (arith, s.room, halves) }
