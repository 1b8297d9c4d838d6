-- A register of words: entry i is the five words from 5 * i on.
use Rattle.std.specs.Prelude.{cond, List, [], ◌∷◌, ℕ, ◌+◌, ◌-◌, ◌*◌, ◌≤◌, ◌<◌, eqb, length, get_or}
use Rattle.std.proofs.lemmas.List.Edits.{sets}
use Rattle.base.specs.Tab.{overlay}
use Rattle.table.specs.declared.Block.{Block}
use Rattle.ponds.specs.declared.Pond.{Pond}
use Rattle.ponds.specs.Entries.{words_of}
use Rattle.ponds_entry.specs.Gathered.{grown_of, Fitting, ponds_from}

-- an entry's words, and the entry that stands in a register
abbrev pub pond_words : Pond → List ℕ
pond_words e = e.pixels ∷ e.top ∷ e.bottom ∷ e.left ∷ e.right ∷ []

unfoldable pub pond_at : List ℕ → ℕ → Pond
pond_at words i = record {
  pixels = get_or words (5 * i) 0;
  top = get_or words (5 * i + 1) 0;
  bottom = get_or words (5 * i + 2) 0;
  left = get_or words (5 * i + 3) 0;
  right = get_or words (5 * i + 4) 0;
}

-- the register with another entry i
abbrev pub put_at : List ℕ → ℕ → Pond → List ℕ
put_at words i e = sets words (5 * i) (pond_words e)

-- the register after a block of number k: pond k's entry has the block; 0 is no pond's number
unfoldable pub passed_of : Block → ℕ → List ℕ → List ℕ
passed_of b k words = cond (eqb k 0) words (put_at words (k - 1) (grown_of (pond_at words (k - 1)) b))

-- the pond's entry stands in the register and has room for the block
pub record Passing (b : Block) (k : ℕ) (words : List ℕ) : Type 0 where
  pub stands : 5 * k ≤ length words
  pub fits : 0 < k → Fitting (pond_at words (k - 1)) b

-- the register that had the words `before`, once ponds 1 to `count` have the entries E
abbrev pub register_of : ℕ → List ℕ → (ℕ → Pond) → List ℕ
register_of count before E = overlay (words_of (ponds_from E count 1)) before
