-- The least of a function's values: below the top and each value, and itself the top or one of them; so a number is the
-- least where all that holds of it.
use mathlib.Core.Logic.{◌⊎◌, inl, inr, ⊎_elim}
use mathlib.Core.Path.{◌≡◌, refl}
use Prim.Native.Nat.{ℕ, zero, suc, ◌+◌, ◌≤◌, ◌<◌, min}
use native.Mathlib.Nat.{le_trans, le_antisymm, le-min, le_of_lt, min-le_left, min-le_right, min-eq_left, min-eq_right, min_comm, eq-or-lt_of_le, le_of_suc-le-suc, not-suc-le-zero}
use native.Mathlib.Numerals.{add-one}
use native.Mathlib.Omega.{arith}
use Rattle.base.specs.Tab.{least}
use Rattle.base.proofs.BoolLaws.{lt_or_ge}

module _ (top : ℕ) (f : ℕ → ℕ) where
  pub least_top : (k : ℕ) → least top f k ≤ top
  unfolding least
  least_top zero = omega arith
  least_top (suc k) = le_trans (min-le_right (f k) (least top f k)) (least_top k)

  pub least_le : (k i : ℕ) → i < k → least top f k ≤ f i
  unfolding least
  least_le zero i h = absurd (not-suc-le-zero h)
  least_le (suc k) i h =
      ⊎_elim (λ (e : i ≡ k). rw e (min-le_left (f k) (least top f k)))
      (λ (l : i < k). le_trans (min-le_right (f k) (least top f k)) (least_le k i l))
      (eq-or-lt_of_le (le_of_suc-le-suc h))

  pub least_ge : (v k : ℕ) → v ≤ top → ((i : ℕ) → i < k → v ≤ f i) → v ≤ least top f k
  unfolding least
  least_ge v zero t h = t
  least_ge v (suc k) t h = le-min (h k (omega arith)) (least_ge v k t (λ i l. h i (omega arith)))

  -- one value more, and any number more
  pub least_next : (k : ℕ) → least top f (k + 1) ≡ min (least top f k) (f k)
  unfolding least
  least_next k = rw (add-one k) (min_comm (f k) (least top f k))

  pub least_less : (j k : ℕ) → j ≤ k → least top f k ≤ least top f j
  least_less j k h = least_ge (least top f k) j (least_top k) (λ i l. least_le k i (omega arith))

  -- where it is one of the values
  pub record Hit (k v : ℕ) : Type 0 where
    pub at : ℕ
    pub below : at < k
    pub value : f at ≡ v

  pub least_hit : (k : ℕ) → (least top f k ≡ top) ⊎ Hit k (least top f k)
  unfolding least
  least_hit zero = inl refl
  least_hit (suc k) =
      ⊎_elim
      (λ (l : f k < least top f k). rw (min-eq_left (le_of_lt l)) (inr (record { at = k; below = omega arith; value = refl })))
      (λ (l : least top f k ≤ f k).
      rw (min-eq_right l)
      (⊎_elim inl (λ (h : Hit k (least top f k)). inr (record { at = h.at; below = omega (arith, h.below); value = h.value })) (least_hit k)))
      (lt_or_ge (f k) (least top f k))

  pub least_is : (v k : ℕ) → v ≤ top → ((i : ℕ) → i < k → v ≤ f i) → (v ≡ top) ⊎ Hit k v → least top f k ≡ v
  least_is v k t h a =
      le_antisymm
      (⊎_elim (λ (e : v ≡ top). rw e (least_top k)) (λ (i : Hit k v). rw (← i.value) (least_le k i.at i.below)) a)
      (least_ge v k t h)

-- functions with the same values have the same least
pub least_same : (top : ℕ) (f g : ℕ → ℕ) (k : ℕ) → ((i : ℕ) → i < k → f i ≡ g i) → least top f k ≡ least top g k
unfolding least
least_same top f g zero h = refl
least_same top f g (suc k) h = rw (h k (omega arith), least_same top f g k (λ i l. h i (omega arith)))
