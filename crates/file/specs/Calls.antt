-- The two calls' statements: the answer, and what is in the lent buffer afterwards.
use Rattle.std.specs.Prelude.{List, ◌≡◌, ℕ, length}
use Rattle.answer.specs.Numbers.{Outcome}
use Rattle.file.specs.File.{read_of, read_table, write_of, written_file}

-- reading a file into the table `before` answers r and leaves the table `after`
pub record Reads (file before : List ℕ) (r : Outcome) (after : List ℕ) : Type 0 where
  pub answer : r ≡ read_of file (length before)
  pub table : after ≡ read_table file before

-- writing the table of level n into the file `before` answers r and leaves the file `after`
pub record Writes (n : ℕ) (table before : List ℕ) (r : Outcome) (after : List ℕ) : Type 0 where
  pub answer : r ≡ write_of n table (length before)
  pub file : after ≡ written_file n table before
