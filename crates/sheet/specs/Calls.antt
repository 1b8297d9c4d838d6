-- The statement of each outside call, which its contract cites: the number given back, and what is then in the lent
-- buffer. They hold for any numbers and any contents of the slices.
use Rattle.std.specs.Prelude.{List, ◌≡◌, ℕ, length, Float}
use Rattle.answer.specs.Numbers.{Outcome, number_of}
use Rattle.table.specs.Rules.{check_of}
use Rattle.raster.specs.Raster.{build_of, built_table, decode_of, decoded_raster}
use Rattle.neighbour.specs.Neighbour.{neighbour_of, corner_leaf_of, diagonal_leaf_of}
use Rattle.distance.specs.Distance.{distance_of, distances_after}
use Rattle.ponds.specs.Calls.{FindsInWords}
use Rattle.file.specs.File.{read_of, read_table, write_of, written_file}
use Rattle.ground.specs.declared.Ground.{Ground}
use Rattle.ground.specs.Ground.{centre_of, centre_after}

-- the number given back is this outcome's; the call writes nothing
unfoldable pub Gives : Outcome → ℕ → Type 0
Gives o r = r ≡ number_of o

-- the number given back is this outcome's, and the lent buffer then holds this
pub record Leaves {A : Type 0} (o : Outcome) (left : List A) (r : ℕ) (after : List A) : Type 0 where
  pub number : r ≡ number_of o
  pub buffer : after ≡ left

-- sheet_check: level, table
abbrev pub Checks : ℕ → List ℕ → ℕ → Type 0
Checks n T = Gives (check_of n T)

-- sheet_build: level, raster, the table before, the number, the table after
abbrev pub Builds : ℕ → List ℕ → List ℕ → ℕ → List ℕ → Type 0
Builds n R before = Leaves (build_of n R (length before)) (built_table n R before)

-- sheet_decode: level, table, the raster before, the number, the raster after
abbrev pub Decodes : ℕ → List ℕ → List ℕ → ℕ → List ℕ → Type 0
Decodes n T before = Leaves (decode_of n T (length before)) (decoded_raster n T before)

-- sheet_neighbour: level, table, node, direction
abbrev pub FindsNeighbour : ℕ → List ℕ → ℕ → ℕ → ℕ → Type 0
FindsNeighbour n T p D = Gives (neighbour_of n T p D)

-- sheet_corner_leaf: level, table, node, side, corner
abbrev pub FindsCornerLeaf : ℕ → List ℕ → ℕ → ℕ → ℕ → ℕ → Type 0
FindsCornerLeaf n T p D C = Gives (corner_leaf_of n T p D C)

-- sheet_diagonal_leaf: level, table, node, corner
abbrev pub FindsDiagonalLeaf : ℕ → List ℕ → ℕ → ℕ → ℕ → Type 0
FindsDiagonalLeaf n T p C = Gives (diagonal_leaf_of n T p C)

-- sheet_distance: level, table, the words before, the number, the words after
abbrev pub FindsDistances : ℕ → List ℕ → List ℕ → ℕ → List ℕ → Type 0
FindsDistances n T before = Leaves (distance_of n T (length before)) (distances_after n T before)

-- sheet_ponds: level, table, the numbers and the register before, the number, the numbers and the register after
pub record FindsPonds (n : ℕ) (T numbers reg : List ℕ) (r : ℕ) (numbers' reg' : List ℕ) : Type 0 where
  pub outcome : Outcome
  pub number : r ≡ number_of outcome
  pub slices : FindsInWords n T numbers reg outcome numbers' reg'

-- sheet_read: file, the table before, the number, the table after
abbrev pub ReadsFile : List ℕ → List ℕ → ℕ → List ℕ → Type 0
ReadsFile file before = Leaves (read_of file (length before)) (read_table file before)

-- sheet_write: level, table, the file before, the number, the file after
abbrev pub WritesFile : ℕ → List ℕ → List ℕ → ℕ → List ℕ → Type 0
WritesFile n T before = Leaves (write_of n T (length before)) (written_file n T before)

-- sheet_centre's ground place
abbrev pub ground_at : Float → Float → Float → Ground
ground_at east north step = record { east = east; north = north; step = step }

-- sheet_centre: level, table, node, ground, the slice before, the number, the slice after
abbrev pub FindsCentre : ℕ → List ℕ → ℕ → Ground → List Float → ℕ → List Float → Type 0
FindsCentre n T p g before = Leaves (centre_of n T p g (length before)) (centre_after n T p g before)
