-- Reading, one function at a time: what the first pass tells of a record, of a block, of four and of the whole file,
-- and how far a block reaches.
use Rattle.std.specs.Prelude.{Result, Ok, Err, Bool, true, false, cond, ◌≡◌, List, ℕ, zero, suc, ◌+◌, ◌-◌, ◌*◌, ◌/◌, ◌^◌, ◌<◌, eqb, ltb, length, get_or, slice_set, Option, Some, None}
use Rattle.answer.specs.declared.Refusal.{Refusal}
use Rattle.answer.specs.declared.Refusal.TheVariants.{BadLevel, BadByte, BadCount}
use Rattle.answer.specs.Numbers.{Outcome}
use Rattle.quad.specs.Numbers.{top_level, top_colour, fork_type, is_type}
use Rattle.quad.specs.Tree.{Tree, colour, like_types, size_of}
use Rattle.file.specs.declared.Block.{Block}
use Rattle.file.specs.declared.Contents.{Contents}
use Rattle.file.specs.File.{Got, got, bad, Opened, opened, faulty, mark, sheet_mark, node_mark, needed, marked}

-- the byte at a place, or that it is absent
abbrev pub byte_of : List ℕ → ℕ → Result ℕ Refusal
byte_of s at = needed s at Err (Ok (get_or s at 0))

-- the two mark bytes at a place
unfoldable pub marks_of : List ℕ → ℕ → ℕ → Result (Unit {0}) Refusal
marks_of s at second = marked s at mark Err (marked s (at + 1) second Err (Ok tt))

-- a node record: the place after it and its type, or the fault
unfoldable pub record_of : List ℕ → ℕ → Result Block Refusal
record_of s at =
    marked s at mark Err
    (marked s (at + 1) node_mark Err
    (needed s (at + 2) Err
    (cond (is_type (get_or s (at + 2) 0)) (Ok (record { next = at + 3; kind = get_or s (at + 2) 0 })) (Err (BadByte (at + 2))))))

-- a block: the place after it and its root's type, or the fault
abbrev pub told : Got → Result Block Refusal
told (got at t) = Ok (record { next = at; kind = colour t })
told (bad o) = Err o

-- every place of a block of level l that starts here fits a word: it has at most (4 ^ (l + 1) - 1) / 3 records of three
-- bytes
abbrev pub Reaches : ℕ → ℕ → Type 0
Reaches l at = at + 4 * 4 ^ l < 4294967296

-- and so for the four blocks of level l behind a fork's record that starts three bytes before this place
abbrev pub FourReach : ℕ → ℕ → Type 0
FourReach l at = at + 16 * 4 ^ l < 4294967299

-- the header: its level as the answer, or the first fault
unfoldable pub header_of : List ℕ → Outcome
header_of s =
    marked s 0 mark Err
    (marked s 1 sheet_mark Err
    (needed s 2 Err
    (cond (ltb top_level (get_or s 2 0)) (Err (BadLevel 2)) (needed s 3 Err (needed s 4 Err (Ok (get_or s 2 0)))))))

-- the node count that the header names
abbrev pub count_of : List ℕ → ℕ
count_of s = get_or s 3 0 + 256 * get_or s 4 0

-- the records before a place
abbrev pub records_to : ℕ → ℕ
records_to at = (at - 5) / 3

-- after a block of a file of level n that ends before a place: the count, then the bytes left over
unfoldable pub closing_of : List ℕ → ℕ → ℕ → Result Contents Refusal
closing_of s n at =
    cond (eqb (count_of s) (records_to at)) (cond (ltb at (length s)) (Err (BadCount at)) (Ok (record { level = n; count = records_to at }))) (Err (BadCount 3))

-- a whole file: level and node count, or the first fault
abbrev pub contents_of : Opened → Result Contents Refusal
contents_of (opened n t) = Ok (record { level = n; count = size_of t })
contents_of (faulty o) = Err o

-- a whole node record stands at a place
unfoldable pub stands_at : List ℕ → ℕ → Bool
stands_at s at =
    cond (ltb (length s - at) 3) false
    (cond (eqb (get_or s at 0) mark) (cond (eqb (get_or s (at + 1) 0) node_mark) (is_type (get_or s (at + 2) 0)) false) false)

-- the place after what was read, or none where it is refused
abbrev pub place_after : Got → Option ℕ
place_after (got at t) = Some at
place_after (bad o) = None

-- the same as a number, which is 0 where it is refused: what is read ends later
abbrev pub end_of : Got → ℕ
end_of (got at t) = at
end_of (bad o) = 0

-- and what comes after a block, or none
abbrev pub then_after : Got → (ℕ → Tree → Option ℕ) → Option ℕ
then_after (got at t) next = next at t
then_after (bad o) next = None

-- the place after the last so many of four blocks, from block q on, or none: `kinds` has the types of those before
unfoldable pub rest_after : (ℕ → Got) → ℕ → ℕ → ℕ → List ℕ → Option ℕ
rest_after block zero q at kinds =
    cond (like_types (get_or kinds 0 0) (get_or kinds 1 0) (get_or kinds 2 0) (get_or kinds 3 0)) None (Some at)
rest_after block (suc left) q at kinds = then_after (block at) (λ i t. rest_after block left (q + 1) i (slice_set kinds q (colour t)))

-- the same by counting: 1 for two types that are the same; what comes after a block, or 0; and the place after the last so
-- many of four blocks, or 0: `last` is the type of the block before them, and `same` of those before have the type of the
-- one before
abbrev pub same_type : ℕ → ℕ → ℕ
same_type a b = cond (eqb a b) 1 0

abbrev pub end_then : Got → (ℕ → Tree → ℕ) → ℕ
end_then (got at t) next = next at t
end_then (bad o) next = 0

unfoldable pub rest_end : (ℕ → Got) → ℕ → ℕ → ℕ → ℕ → ℕ
rest_end block zero at last same = cond (eqb last fork_type) at (cond (eqb same 3) 0 at)
rest_end block (suc left) at last same = end_then (block at) (λ i t. rest_end block left i (colour t) (same + same_type (colour t) last))

-- r is the number of the four bytes at a place, the low byte first
pub record FourBytes (s : List ℕ) (at r : ℕ) : Type 0 where
  pub is : r ≡ get_or s at 0 + 256 * get_or s (at + 1) 0 + 65536 * get_or s (at + 2) 0 + 16777216 * get_or s (at + 3) 0
  pub first : get_or s at 0 < 256
  pub second : get_or s (at + 1) 0 < 256
  pub third : get_or s (at + 2) 0 < 256
  pub fourth : get_or s (at + 3) 0 < 256

-- four types of a fork's pixels: each is a colour, and they are not all alike
unfoldable pub pixel_types : ℕ → ℕ → ℕ → ℕ → Bool
pixel_types a b c d =
    cond (ltb top_colour a) false
    (cond (ltb top_colour b) false (cond (ltb top_colour c) false (cond (ltb top_colour d) false (cond (like_types a b c d) false true))))
