-- The list of a function's values, the least and the greatest of them and their sum; a list written over the start of
-- another.
use Rattle.std.specs.Prelude.{List, [], ◌∷◌, ◌++◌, length, drop, ℕ, zero, suc, ◌+◌, min, max}

-- f i, f (i + 1), .., k of them
unfoldable pub tab_from : (ℕ → ℕ) → ℕ → ℕ → List ℕ
tab_from f zero i = []
tab_from f (suc k) i = f i ∷ tab_from f k (i + 1)

-- f 0, .., f (k - 1)
abbrev pub tab : (ℕ → ℕ) → ℕ → List ℕ
tab f k = tab_from f k 0

-- the least of top and f 0, .., f (k - 1)
unfoldable pub least : ℕ → (ℕ → ℕ) → ℕ → ℕ
least top f zero = top
least top f (suc k) = min (f k) (least top f k)

-- the greatest of f 0, .., f (k - 1), 0 where k is 0
unfoldable pub greatest : (ℕ → ℕ) → ℕ → ℕ
greatest f zero = 0
greatest f (suc k) = max (f k) (greatest f k)

-- f 0 + .. + f (k - 1)
unfoldable pub sum : (ℕ → ℕ) → ℕ → ℕ
sum f zero = 0
sum f (suc k) = f k + sum f k

-- the buffer `old` after `new` was written to its start: the rest stays
abbrev pub overlay : {A : Type 0} → List A → List A → List A
overlay new old = new ++ drop (length new) old
