-- The numbers of document 01 that a change request may move: each has one name, by which definitions and proofs call
-- it.
use Rattle.std.specs.Prelude.{Bool, ◌||◌, ℕ, eqb, leb}

-- a sheet has level 0 to this ('Sheets and node tables')
abbrev pub top_level : ℕ
top_level = 7

-- leaves have the types from 0, WHITE, to this, BLACK
abbrev pub top_colour : ℕ
top_colour = 1

abbrev pub white : ℕ
white = 0

abbrev pub black : ℕ
black = 1

-- the type of a fork, GRAY
abbrev pub fork_type : ℕ
fork_type = 2

-- a node's type: a colour, or a fork's
abbrev pub is_type : ℕ → Bool
is_type k = leb k top_colour || eqb k fork_type

-- "None", and the distance's mark where no pixel is white
abbrev pub none : ℕ
none = 4294967295

-- a table has at most so many words
abbrev pub max_words : ℕ
max_words = 131070
