-- Document 01's sheet A as raster, table and file, and the sheets of its marked cases (j) and (k).
use Rattle.std.specs.Prelude.{List, [], ◌∷◌, ℕ}
use Rattle.quad.specs.Numbers.{none, fork_type, white, black}

-- rows 1100, 1101, 0000, 0000
abbrev pub raster_a : List ℕ
raster_a = 1 ∷ 1 ∷ 0 ∷ 0 ∷ 1 ∷ 1 ∷ 0 ∷ 1 ∷ 0 ∷ 0 ∷ 0 ∷ 0 ∷ 0 ∷ 0 ∷ 0 ∷ 0 ∷ []

-- its preorder table: nine nodes
abbrev pub table_a : List ℕ
table_a =
    none ∷ 1 ∷ 2 ∷ 7 ∷ 8 ∷ fork_type
    ∷ 0 ∷ none ∷ none ∷ none ∷ none ∷ black
    ∷ 0 ∷ 3 ∷ 4 ∷ 5 ∷ 6 ∷ fork_type
    ∷ 2 ∷ none ∷ none ∷ none ∷ none ∷ white
    ∷ 2 ∷ none ∷ none ∷ none ∷ none ∷ white
    ∷ 2 ∷ none ∷ none ∷ none ∷ none ∷ white
    ∷ 2 ∷ none ∷ none ∷ none ∷ none ∷ black
    ∷ 0 ∷ none ∷ none ∷ none ∷ none ∷ white
    ∷ 0 ∷ none ∷ none ∷ none ∷ none ∷ white
    ∷ []

-- its file: 32 bytes
abbrev pub file_a : List ℕ
file_a =
    81 ∷ 83 ∷ 2 ∷ 9 ∷ 0
    ∷ 81 ∷ 78 ∷ 2 ∷ 81 ∷ 78 ∷ 1 ∷ 81 ∷ 78 ∷ 2
    ∷ 81 ∷ 78 ∷ 0 ∷ 81 ∷ 78 ∷ 0 ∷ 81 ∷ 78 ∷ 0
    ∷ 81 ∷ 78 ∷ 1 ∷ 81 ∷ 78 ∷ 0 ∷ 81 ∷ 78 ∷ 0
    ∷ []

-- (j): rows 1110, 1110, 1111, 1111
abbrev pub raster_j : List ℕ
raster_j = 1 ∷ 1 ∷ 1 ∷ 0 ∷ 1 ∷ 1 ∷ 1 ∷ 0 ∷ 1 ∷ 1 ∷ 1 ∷ 1 ∷ 1 ∷ 1 ∷ 1 ∷ 1 ∷ []

-- (k): one black pixel
abbrev pub table_k : List ℕ
table_k = none ∷ none ∷ none ∷ none ∷ none ∷ black ∷ []
