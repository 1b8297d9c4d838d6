-- A test over every number below a bound, which antt computes.
use Rattle.std.specs.Prelude.{Bool, true, ◌&&◌, ℕ, zero, suc}

-- f holds of 0, .., n - 1
abbrev pub all : (ℕ → Bool) → ℕ → Bool
all f zero = true
all f (suc n) = f n && all f n

-- f holds of every pair (i, j) with i below m and j below n
abbrev pub all2 : (ℕ → ℕ → Bool) → ℕ → ℕ → Bool
all2 f m n = all (λ i. all (f i) n) m
