-- What the tests and the numbering leave before a register is filled: of the register only its length, `have`, counts.
-- Inner: no outside call's statement cites it.
use Rattle.std.specs.Prelude.{Ok, true, false, List, ◌≡◌, ℕ, ◌-◌, ◌*◌, ◌^◌, ◌≤◌, length}
use Rattle.answer.specs.Numbers.{Outcome, answers}
use Rattle.quad.specs.Numbers.{top_level}
use Rattle.ponds_entry.specs.Gathered.{Numbers}
use Rattle.ponds.specs.Numbered.{Numbered}
use Rattle.ponds.specs.Calls.{black_leaves, ponds_test}

-- the most black leaves that a sheet can have: three under each fork that stands just above the pixels
abbrev pub most_black : ℕ
most_black = 3 * 4 ^ (top_level - 1)

-- the numbers of an answer are the ponds', such as a register is filled from, and it has room for them
pub record Counts (n : ℕ) (T : List ℕ) (wide have : ℕ) (numbers : List ℕ) (count : ℕ) : Type 0 where
  pub numbered : Numbered n T numbers count
  pub filling : Numbers n T numbers count
  pub room : wide * count ≤ have

pub record Finding (n : ℕ) (T : List ℕ) (wide have : ℕ) (numbers : List ℕ) (o : Outcome) (numbers' : List ℕ) : Type 0 where
  pub refused : answers (ponds_test n T (length numbers) (wide * black_leaves T) have) ≡ false
      → (o ≡ ponds_test n T (length numbers) (wide * black_leaves T) have) × (numbers' ≡ numbers)
  pub answered : answers (ponds_test n T (length numbers) (wide * black_leaves T) have) ≡ true
      → (count : ℕ) × (o ≡ Ok count) × Counts n T wide have numbers' count
