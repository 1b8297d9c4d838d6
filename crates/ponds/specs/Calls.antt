-- What the call owes for any level, words and slices (document 02, No. 1): the outcome, the numbers and the register.
-- The register is of words, or of structs: they differ in how an entry is written and in what an entry takes.
use Rattle.std.specs.Prelude.{Ok, true, false, List, ◌≡◌, ℕ, ◌*◌, eqb, length}
use Rattle.base.specs.Tab.{sum, overlay}
use Rattle.answer.specs.Numbers.{Outcome, and_then, room, answers}
use Rattle.quad.specs.Numbers.{black}
use Rattle.table.specs.Table.{nodes, node_type}
use Rattle.table.specs.Rules.{one, each_node_of}
use Rattle.ponds.specs.declared.Pond.{Pond}
use Rattle.ponds.specs.Entries.{entries, words_of}
use Rattle.ponds.specs.Numbered.{Numbered}

-- how many leaves are black: there are never more ponds
unfoldable pub black_leaves : List ℕ → ℕ
black_leaves T = sum (λ p. one (eqb (node_type T p) black)) (nodes T)

-- the tests: 1, 2 (table first), 3, 4, 5, and 9 where the register is shorter than it need be; `words` is the length of
-- the numbers
unfoldable pub ponds_test : ℕ → List ℕ → ℕ → ℕ → ℕ → Outcome
ponds_test n T words need have = and_then (each_node_of n T words) (room need have)

-- what an answer leaves: the numbers, and one entry for each pond, written so; what lies beyond the last pond's stays
pub record Answers {A : Type 0} (n : ℕ) (T : List ℕ) (written : List Pond → List A) (before : List A) (count : ℕ) (numbers : List ℕ) (after : List A) : Type 0 where
  pub numbered : Numbered n T numbers count
  pub register : after ≡ overlay (written (entries n T numbers count)) before

-- for any numbers and register that are lent, an entry taking `wide` elements of it: a refusal leaves both as they
-- were, and the value of an answer is the number of ponds
pub record Finds {A : Type 0} (n : ℕ) (T : List ℕ) (written : List Pond → List A) (wide : ℕ) (numbers : List ℕ) (reg : List A) (o : Outcome) (numbers' : List ℕ) (reg' : List A) : Type 0 where
  pub refused : answers (ponds_test n T (length numbers) (wide * black_leaves T) (length reg)) ≡ false
      → (o ≡ ponds_test n T (length numbers) (wide * black_leaves T) (length reg)) × (numbers' ≡ numbers) × (reg' ≡ reg)
  pub answered : answers (ponds_test n T (length numbers) (wide * black_leaves T) (length reg)) ≡ true
      → (count : ℕ) × (o ≡ Ok count) × Answers n T written reg count numbers' reg'

-- the call on words, five for each entry: level, table, the numbers and the register before, the outcome, the numbers
-- and the register after
abbrev pub FindsInWords : ℕ → List ℕ → List ℕ → List ℕ → Outcome → List ℕ → List ℕ → Type 0
FindsInWords n T = Finds n T words_of 5

-- the call on structs
abbrev pub FindsInEntries : ℕ → List ℕ → List ℕ → List Pond → Outcome → List ℕ → List Pond → Type 0
FindsInEntries n T = Finds n T (λ es. es) 1
