-- A raster is a slice of 4^n bytes, row by row. Building gives the preorder table of its one tree; decoding gives the
-- raster of a table (document 01, 'Sheets and node tables').
use Rattle.std.specs.Prelude.{Ok, Err, not, cond, List, [], ◌∷◌, ℕ, ◌+◌, ◌*◌, ◌/◌, ◌%◌, ◌^◌, eqb, ltb, length, get_or}
use Rattle.base.specs.Tab.{tab, overlay}
use Rattle.answer.specs.declared.Refusal.TheVariants.{BadLevel, WrongLength, BadPixel}
use Rattle.answer.specs.Numbers.{Outcome, and_then, unless, room, answers}
use Rattle.quad.specs.Numbers.{top_level, top_colour}
use Rattle.quad.specs.Tree.{Tree, tree_of, size_of}
use Rattle.table.specs.Rules.{sizes_of, faults_of}
use Rattle.table.specs.Nodes.{pixel}
use Rattle.table.specs.Preorder.{preorder_table}

-- the picture of a raster of level n: column x and row y count from 0 at the top left
abbrev pub picture_of : ℕ → List ℕ → ℕ → ℕ → ℕ
picture_of n R x y = get_or R (y * 2 ^ n + x) 0

-- the raster of a table
unfoldable pub raster_of : ℕ → List ℕ → List ℕ
raster_of n T = tab (λ i. pixel n T (i % 2 ^ n) (i / 2 ^ n)) (4 ^ n)

-- the one tree of a raster
unfoldable pub raster_tree : ℕ → List ℕ → Tree
raster_tree n R = tree_of (picture_of n R) n 0 0

-- the first byte above 1, at its place, the first byte being at i
unfoldable pub pixels_from : List ℕ → ℕ → Outcome
pixels_from [] i = Ok 0
pixels_from (b ∷ bs) i = cond (ltb top_colour b) (Err (BadPixel i)) (pixels_from bs (i + 1))

-- a raster is a slice of exactly 4^n bytes
abbrev pub raster_length : ℕ → ℕ → Outcome
raster_length n bytes = unless (not (eqb bytes (4 ^ n))) (Err (WrongLength 1))

-- building: refusals 1, 2, 8, 9 in this order; `words` is the length of the table that is lent
unfoldable pub build_of : ℕ → List ℕ → ℕ → Outcome
build_of n R words =
    and_then (unless (ltb top_level n) (Err (BadLevel 0)))
    (and_then (raster_length n (length R))
    (and_then (pixels_from R 0)
    (and_then (room (6 * size_of (raster_tree n R)) words)
    (Ok (size_of (raster_tree n R))))))

-- the table as building leaves it
unfoldable pub built_table : ℕ → List ℕ → List ℕ → List ℕ
built_table n R old = cond (answers (build_of n R (length old))) (overlay (preorder_table (raster_tree n R)) old) old

-- decoding: refusals 1, 2 (table first), 3, 4, 5; `bytes` is the length of the raster that is lent
unfoldable pub decode_of : ℕ → List ℕ → ℕ → Outcome
decode_of n T bytes = and_then (sizes_of n T) (and_then (raster_length n bytes) (and_then (faults_of n T) (Ok 0)))

-- the raster as decoding leaves it
unfoldable pub decoded_raster : ℕ → List ℕ → List ℕ → List ℕ
decoded_raster n T old = cond (answers (decode_of n T (length old))) (raster_of n T) old
