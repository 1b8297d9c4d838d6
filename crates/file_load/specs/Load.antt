-- The programs' read (document 01, 'Sheet A': "Code 15 comes straight after the test of n"): a file as sheet_read takes
-- it, but a level above the highest printed is code 15.
use Rattle.std.specs.Prelude.{Err, Bool, false, cond, List, ◌≡◌, ℕ, eqb, leb, length, get_or}
use Rattle.answer.specs.Numbers.{Outcome}
use Rattle.answer.specs.declared.Refusal.TheVariants.{TooLarge}
use Rattle.quad.specs.Numbers.{top_level}
use Rattle.file.specs.File.{mark, sheet_mark, read_of, read_table}

-- programs print levels 0 to this
abbrev pub printed_level : ℕ
printed_level = 5

-- the header's marks are right, and its level is one of a sheet's that no program prints
unfoldable pub too_large : List ℕ → Bool
too_large s =
    cond (leb (length s) 2) false
    (cond (eqb (get_or s 0 0) mark)
    (cond (eqb (get_or s 1 0) sheet_mark)
    (cond (leb (get_or s 2 0) printed_level) false (leb (get_or s 2 0) top_level))
    false)
    false)

unfoldable pub load_of : List ℕ → ℕ → Outcome
load_of s words = cond (too_large s) (Err (TooLarge 2)) (read_of s words)

unfoldable pub loaded_table : List ℕ → List ℕ → List ℕ
loaded_table s old = cond (too_large s) old (read_table s old)

-- loading a file into the table `before` answers r and leaves the table `after`
pub record Loads (file before : List ℕ) (r : Outcome) (after : List ℕ) : Type 0 where
  pub answer : r ≡ load_of file (length before)
  pub table : after ≡ loaded_table file before
