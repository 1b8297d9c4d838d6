-- Document 01, 'Numbers given back': the code and the value of each outcome, and the order in which refusals apply.
use Rattle.std.specs.Prelude.{Bool, cond, ℕ, ◌+◌, ◌*◌, ◌/◌, ◌%◌, eqb, ltb, Result, Ok, Err}
use Rattle.answer.specs.declared.Refusal.{Refusal}
use Rattle.answer.specs.declared.Refusal.TheVariants.{BadLevel, WrongLength, BadNode, TooDeep, NeedlessFork, NoNode, BadDirection, BadPixel, NoRoom, BadPlace, OutOfRange, BadByte, Absent, BadCount, TooLarge, NoBlock}

-- what a call gives: its value, or a refusal
abbrev pub Outcome : Type 0
Outcome = Result ℕ Refusal

abbrev pub code_of : Outcome → ℕ
code_of (Ok v) = 0
code_of (Err (BadLevel v)) = 1
code_of (Err (WrongLength v)) = 2
code_of (Err (BadNode v)) = 3
code_of (Err (TooDeep v)) = 4
code_of (Err (NeedlessFork v)) = 5
code_of (Err (NoNode v)) = 6
code_of (Err (BadDirection v)) = 7
code_of (Err (BadPixel v)) = 8
code_of (Err (NoRoom v)) = 9
code_of (Err BadPlace) = 10
code_of (Err (OutOfRange v)) = 11
code_of (Err (BadByte v)) = 12
code_of (Err (Absent v)) = 13
code_of (Err (BadCount v)) = 14
code_of (Err (TooLarge v)) = 15
code_of (Err NoBlock) = 20

abbrev pub value_of : Outcome → ℕ
value_of (Ok v) = v
value_of (Err (BadLevel v)) = v
value_of (Err (WrongLength v)) = v
value_of (Err (BadNode v)) = v
value_of (Err (TooDeep v)) = v
value_of (Err (NeedlessFork v)) = v
value_of (Err (NoNode v)) = v
value_of (Err (BadDirection v)) = v
value_of (Err (BadPixel v)) = v
value_of (Err (NoRoom v)) = v
value_of (Err BadPlace) = 0
value_of (Err (OutOfRange v)) = v
value_of (Err (BadByte v)) = v
value_of (Err (Absent v)) = v
value_of (Err (BadCount v)) = v
value_of (Err (TooLarge v)) = v
value_of (Err NoBlock) = 0

-- the number given back to C
abbrev pub number_of : Outcome → ℕ
number_of o = code_of o + 256 * value_of o

-- a level is beside a node, or beside a node count, in one value: both documents' × 8, with room for the levels 0 to 7
abbrev pub level_room : ℕ
level_room = 8

abbrev pub with_level : ℕ → ℕ → ℕ
with_level k level = level_room * k + level

-- the two of them in such a value: the node or node count, and the level
abbrev pub node_in : ℕ → ℕ
node_in v = v / level_room

abbrev pub level_in : ℕ → ℕ
level_in v = v % level_room

-- is it an answer, and no refusal?
abbrev pub answers : Outcome → Bool
answers o = eqb (code_of o) 0

-- 'the first that applies': where o refuses, o; else what comes next
abbrev pub and_then : Outcome → Outcome → Outcome
and_then o next = cond (answers o) next o

-- a test of document 01's order: passed (with value 0), or refused so
abbrev pub unless : Bool → Outcome → Outcome
unless bad o = cond bad o (Ok 0)

-- an output of `have` elements where `need` are needed
abbrev pub room : ℕ → ℕ → Outcome
room need have = unless (ltb have need) (Err (NoRoom need))
