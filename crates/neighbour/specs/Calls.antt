-- What each of the three calls owes for any words and numbers, as its contract says: an outcome r meets it.
use Rattle.std.specs.Prelude.{List, ◌≡◌, ℕ}
use Rattle.answer.specs.Numbers.{Outcome}
use Rattle.neighbour.specs.Neighbour.{neighbour_of, corner_leaf_of, diagonal_leaf_of}

-- level, table, node, direction
abbrev pub Neighbours : ℕ → List ℕ → ℕ → ℕ → Outcome → Type 0
Neighbours n T p D r = r ≡ neighbour_of n T p D

-- level, table, node, side, corner
abbrev pub CornerLeaves : ℕ → List ℕ → ℕ → ℕ → ℕ → Outcome → Type 0
CornerLeaves n T p D C r = r ≡ corner_leaf_of n T p D C

-- level, table, node, corner
abbrev pub DiagonalLeaves : ℕ → List ℕ → ℕ → ℕ → Outcome → Type 0
DiagonalLeaves n T p C r = r ≡ diagonal_leaf_of n T p C
