-- A block of a sheet is an index, not a corner: the block in column x and row y among those of its own size. Its
-- father's is (x / 2, y / 2), its quadrant is x % 2 + 2 * (y % 2): 0 NW, 1 NE, 2 SW, 3 SE. A block's path lists the
-- quadrants that lead to it, the deepest first, so that the father's path is the tail. Depth counts from the sheet,
-- which is the one block of depth 0; at depth d the level is n - d (document 000, section 2).
use Rattle.std.specs.Prelude.{List, [], ◌∷◌, ℕ, zero, suc, ◌+◌, ◌*◌, ◌/◌, ◌%◌, ◌<◌}

-- the quadrant of its father that the block (x, y) is
abbrev pub quadrant_of : ℕ → ℕ → ℕ
quadrant_of x y = x % 2 + 2 * (y % 2)

-- the path of the block (x, y) of depth d
unfoldable pub path_of : ℕ → ℕ → ℕ → List ℕ
path_of zero x y = []
path_of (suc d) x y = quadrant_of x y ∷ path_of d (x / 2) (y / 2)

-- the column, and the row, of the block at the end of a path
unfoldable pub column : List ℕ → ℕ
column [] = 0
column (q ∷ qs) = q % 2 + 2 * column qs

unfoldable pub row : List ℕ → ℕ
row [] = 0
row (q ∷ qs) = q / 2 + 2 * row qs

-- every entry is a quadrant
unfoldable pub Quadrants : List ℕ → Type 0
Quadrants [] = Unit {0}
Quadrants (q ∷ qs) = (q < 4) × Quadrants qs
