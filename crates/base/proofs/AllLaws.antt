-- What a test over every number below a bound says of each: a table's rule is one computed test and this law.
use mathlib.Core.Path.{◌≡◌}
use mathlib.Core.Logic.{⊎_elim}
use mathlib.Core.Bool.{Bool, true}
use Prim.Native.Nat.{ℕ, zero, suc, ◌<◌}
use native.Mathlib.Nat.{not-suc-le-zero, eq-or-lt_of_le, le_of_suc-le-suc}
use Rattle.base.specs.All.{all, all2}
use Rattle.base.proofs.BoolLaws.{and_left, and_right}

pub all_at : (f : ℕ → Bool) (n : ℕ) → all f n ≡ true → (k : ℕ) → k < n → f k ≡ true
all_at f zero e k h = absurd (not-suc-le-zero h)
all_at f (suc n) e k h =
    ⊎_elim (λ (q : k ≡ n). rw q (and_left (f n) (all f n) e))
    (λ (l : k < n). all_at f n (and_right (f n) (all f n) e) k l)
    (eq-or-lt_of_le (le_of_suc-le-suc h))

pub all2_at : (f : ℕ → ℕ → Bool) (m n : ℕ) → all2 f m n ≡ true → (i j : ℕ) → i < m → j < n → f i j ≡ true
all2_at f m n e i j hi hj = all_at (f i) n (all_at (λ (i : ℕ). all (f i) n) m e i hi) j hj
