-- The sheet file (document 01, 'Sheet file'): the bytes of a tree, and what reading bytes gives, byte by byte, the
-- first fault deciding.
use Rattle.std.specs.Prelude.{Ok, Err, cond, List, [], ◌∷◌, ℕ, zero, suc, ◌+◌, ◌*◌, ◌/◌, ◌%◌, eqb, leb, ltb, length, get_or}
use Rattle.base.specs.Tab.{overlay}
use Rattle.answer.specs.declared.Refusal.{Refusal}
use Rattle.answer.specs.declared.Refusal.TheVariants.{BadLevel, TooDeep, NeedlessFork, BadByte, Absent, BadCount}
use Rattle.answer.specs.Numbers.{Outcome, with_level, and_then, room, answers}
use Rattle.quad.specs.Numbers.{top_level, fork_type, is_type}
use Rattle.quad.specs.Tree.{Tree, leaf, fork, alike, size_of, types_of}
use Rattle.table.specs.Rules.{check_of}
use Rattle.table.specs.Table.{nodes}
use Rattle.table.specs.Nodes.{tree_at}
use Rattle.table.specs.Preorder.{preorder_table}

-- the marks: 51 53 before the header, 51 4E before a node's type
abbrev pub mark : ℕ
mark = 81

abbrev pub sheet_mark : ℕ
sheet_mark = 83

abbrev pub node_mark : ℕ
node_mark = 78

-- a record for each type
unfoldable pub records : List ℕ → List ℕ
records [] = []
records (k ∷ ks) = mark ∷ node_mark ∷ k ∷ records ks

-- the file of a tree of level n: the header, then one block
unfoldable pub file_of : ℕ → Tree → List ℕ
file_of n t = mark ∷ sheet_mark ∷ n ∷ size_of t % 256 ∷ size_of t / 256 ∷ records (types_of t)

-- what reading a block gives: the place after it and its tree, or the fault
pub data Got : Type 0 where
  got : ℕ → Tree → Got
  bad : Refusal → Got

-- the byte at a place is needed: absent it is 13 there
abbrev pub needed : {A : Type 0} → List ℕ → ℕ → (Refusal → A) → A → A
needed s at refuse next = cond (leb (length s) at) (refuse (Absent at)) next

-- it must be this mark byte
abbrev pub marked : {A : Type 0} → List ℕ → ℕ → ℕ → (Refusal → A) → A → A
marked s at byte refuse next = needed s at refuse (cond (eqb (get_or s at 0) byte) next (refuse (BadByte at)))

-- a node record at a place, then, by its type, a leaf or what a fork gives
abbrev pub record_at : List ℕ → ℕ → Got → Got
record_at s at forked =
    marked s at mark bad
    (marked s (at + 1) node_mark bad
    (needed s (at + 2) bad
    (cond (is_type (get_or s (at + 2) 0))
    (cond (eqb (get_or s (at + 2) 0) fork_type) forked (got (at + 3) (leaf (get_or s (at + 2) 0))))
    (bad (BadByte (at + 2))))))

abbrev pub onward : Got → (ℕ → Tree → Got) → Got
onward (got at t) next = next at t
onward (bad o) next = bad o

-- four blocks one after the other: four like leaves are a fault at the fourth one's type byte
abbrev pub four_at : (ℕ → Got) → ℕ → Got
four_at block at =
    onward (block at) (λ at₁ a. onward (block at₁) (λ at₂ b. onward (block at₂) (λ at₃ c. onward (block at₃) (λ at₄ d.
    cond (alike a b c d) (bad (NeedlessFork (at₃ + 2))) (got at₄ (fork a b c d))))))

-- a block of level l: a leaf record, or a fork record followed by four blocks; a fork at level 0 is a fault at its type
-- byte
unfoldable pub block_at : List ℕ → ℕ → ℕ → Got
block_at s zero at = record_at s at (bad (TooDeep (at + 2)))
block_at s (suc l) at = record_at s at (four_at (block_at s l) (at + 3))

-- what reading a whole file gives before the room is looked at: level and tree, or the fault
pub data Opened : Type 0 where
  opened : ℕ → Tree → Opened
  faulty : Refusal → Opened

-- after the block: the node count, then no byte left over
abbrev pub closed : List ℕ → ℕ → Got → Opened
closed s n (got at t) =
    cond (eqb (get_or s 3 0 + 256 * get_or s 4 0) (size_of t)) (cond (ltb at (length s)) (faulty (BadCount at)) (opened n t)) (faulty (BadCount 3))
closed s n (bad o) = faulty o

unfoldable pub open_of : List ℕ → Opened
open_of s =
    marked s 0 mark faulty
    (marked s 1 sheet_mark faulty
    (needed s 2 faulty
    (cond (ltb top_level (get_or s 2 0)) (faulty (BadLevel 2))
    (needed s 3 faulty
    (needed s 4 faulty
    (closed s (get_or s 2 0) (block_at s (get_or s 2 0) 5)))))))

-- reading: the answer is 8N + n; `words` is the length of the table that is lent
abbrev pub read_to : Opened → ℕ → Outcome
read_to (opened n t) words = and_then (room (6 * size_of t) words) (Ok (with_level (size_of t) n))
read_to (faulty o) words = Err o

unfoldable pub read_of : List ℕ → ℕ → Outcome
read_of s words = read_to (open_of s) words

abbrev pub table_of : Opened → List ℕ → List ℕ
table_of (opened n t) old = overlay (preorder_table t) old
table_of (faulty o) old = old

-- the table as reading leaves it
unfoldable pub read_table : List ℕ → List ℕ → List ℕ
read_table s old = cond (answers (read_of s (length old))) (table_of (open_of s) old) old

-- writing: refusals 1, 2, 3, 4, 5, 9; the answer is the length; `bytes` is the length of the file that is lent
unfoldable pub write_of : ℕ → List ℕ → ℕ → Outcome
write_of n T bytes = and_then (check_of n T) (and_then (room (5 + 3 * nodes T) bytes) (Ok (5 + 3 * nodes T)))

-- the file as writing leaves it
unfoldable pub written_file : ℕ → List ℕ → List ℕ → List ℕ
written_file n T old = cond (answers (write_of n T (length old))) (overlay (file_of n (tree_at T n 0)) old) old
