-- Sums of pixels: so many pixels that are 0 or 1 are alike where their sum is 0 or their number.
use Rattle.std.specs.Prelude.{cond, List, ℕ, ◌+◌, ◌*◌, ◌%◌, ◌≤◌, eqb, get_or}
use Rattle.quad.specs.Numbers.{top_colour}
use Rattle.quad.specs.Tree.{Tree, fork, tree_of}

-- every byte is a colour
abbrev pub Colours : List ℕ → Type 0
Colours R = (i : ℕ) → get_or R i 0 ≤ top_colour

-- the sum of the four pixels of the block (x, y) of level 1
unfoldable pub four_sum : (ℕ → ℕ → ℕ) → ℕ → ℕ → ℕ
four_sum f x y = f (2 * x) (2 * y) + f (2 * x + 1) (2 * y) + f (2 * x) (2 * y + 1) + f (2 * x + 1) (2 * y + 1)

-- the sum of the sixteen pixels of a block of level 2
unfoldable pub sixteen_sum : (ℕ → ℕ → ℕ) → ℕ → ℕ → ℕ
sixteen_sum f x y = four_sum f (2 * x) (2 * y) + four_sum f (2 * x + 1) (2 * y) + four_sum f (2 * x) (2 * y + 1) + four_sum f (2 * x + 1) (2 * y + 1)

-- 1 where k pixels of the sum s are not alike
unfoldable pub mixed_of : ℕ → ℕ → ℕ
mixed_of s k = cond (eqb (s % k) 0) 0 1

-- a fork over the four quarters of the block (x, y), which are of level l
abbrev pub four_over : (ℕ → ℕ → ℕ) → ℕ → ℕ → ℕ → Tree
four_over f l x y = fork (tree_of f l (2 * x) (2 * y)) (tree_of f l (2 * x + 1) (2 * y)) (tree_of f l (2 * x) (2 * y + 1)) (tree_of f l (2 * x + 1) (2 * y + 1))
