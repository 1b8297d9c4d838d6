-- The greatest of a function's values: at least each value, and at most what all of them are at most.
use mathlib.Core.Logic.{⊎_elim}
use mathlib.Core.Path.{◌≡◌, refl}
use Prim.Native.Nat.{ℕ, zero, suc, ◌≤◌, ◌<◌}
use native.Mathlib.Nat.{le_trans, max-le, le-max_left, le-max_right, eq-or-lt_of_le, le_of_suc-le-suc, not-suc-le-zero}
use native.Mathlib.Omega.{arith}
use Rattle.base.specs.Tab.{greatest}

module _ (f : ℕ → ℕ) where
  pub greatest_ge : (k i : ℕ) → i < k → f i ≤ greatest f k
  unfolding greatest
  greatest_ge zero i h = absurd (not-suc-le-zero h)
  greatest_ge (suc k) i h =
      ⊎_elim (λ (e : i ≡ k). rw e (le-max_left (f k) (greatest f k)))
      (λ (l : i < k). le_trans (greatest_ge k i l) (le-max_right (f k) (greatest f k)))
      (eq-or-lt_of_le (le_of_suc-le-suc h))

  pub greatest_le : (v k : ℕ) → ((i : ℕ) → i < k → f i ≤ v) → greatest f k ≤ v
  unfolding greatest
  greatest_le v zero h = omega arith
  greatest_le v (suc k) h = max-le (h k (omega arith)) (greatest_le v k (λ i l. h i (omega arith)))

-- functions with the same values have the same greatest
pub greatest_same : (f g : ℕ → ℕ) (k : ℕ) → ((i : ℕ) → i < k → f i ≡ g i) → greatest f k ≡ greatest g k
unfolding greatest
greatest_same f g zero h = refl
greatest_same f g (suc k) h = rw (h k (omega arith), greatest_same f g k (λ i l. h i (omega arith)))
