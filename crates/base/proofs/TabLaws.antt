-- The list of a function's values: its length, the value at each place, and the last one.
use mathlib.Core.List.{List, [], ◌∷◌, ◌++◌}
use mathlib.Core.Path.{◌≡◌, refl, ap, ◌∙◌}
use Prim.Native.Nat.{ℕ, zero, suc, ◌+◌, ◌<◌}
use native.Mathlib.Nat.{add-zero, not-suc-le-zero}
use native.Mathlib.Omega.{arith}
use lib.ListN.{length, get_or}
use Rattle.base.specs.Tab.{tab_from}

pub tab_length : (f : ℕ → ℕ) (k i : ℕ) → length (tab_from f k i) ≡ k
unfolding tab_from
tab_length f zero i = refl
tab_length f (suc k) i = ap suc (tab_length f k (i + 1))

pub tab_at : (f : ℕ → ℕ) (k i j : ℕ) → j < k → get_or (tab_from f k i) j 0 ≡ f (i + j)
unfolding tab_from
tab_at f zero i j lt = absurd (not-suc-le-zero lt)
tab_at f (suc k) i zero lt = rw add-zero
tab_at f (suc k) i (suc j) lt =
    let s : i + suc j ≡ i + 1 + j = omega arith in
    rw s (tab_at f k (i + 1) j (omega arith))

pub tab_last : (f : ℕ → ℕ) (k i : ℕ) → tab_from f (suc k) i ≡ tab_from f k i ++ (f (i + k) ∷ [])
unfolding tab_from
tab_last f zero i = rw (add-zero i)
tab_last f (suc k) i =
    let e : i + 1 + k ≡ i + suc k = omega arith in
    ap (λ (r : List ℕ). f i ∷ r) (tab_last f k (i + 1) ∙ rw e)
