-- How the leaders are counted off, row by row and in each from the head of its queue on: each gets the number of those
-- before it by rows, itself counted. Inner definitions: no outside call's statement cites them.
use Rattle.std.specs.Prelude.{List, ◌≡◌, ℕ, ◌+◌, ◌*◌, ◌^◌, ◌≤◌, ◌<◌, length}
use Rattle.quad.specs.Numbers.{top_level}
use Rattle.ponds.specs.Words.{word_of}
use Rattle.ponds_sets.specs.Sets.{leading, place_of}
use Rattle.ponds_queues.specs.Queues.{row_of, Leads, Full}

-- the leaders that begin before place b have their numbers, 1 to the count in the order of their places; the other
-- words are those of W
pub record Counted (n : ℕ) (T F W : List ℕ) (b count : ℕ) (W' : List ℕ) : Type 0 where
  pub long : length W' ≡ length W
  pub rest : (i : ℕ) → (Leads T F i → place_of n T i < b → ⊥) → word_of W' i ≡ word_of W i
  pub some : (i : ℕ) → Leads T F i → place_of n T i < b → leading < word_of W' i
  pub most : (i : ℕ) → Leads T F i → place_of n T i < b → word_of W' i ≤ leading + count
  pub order : (i j : ℕ) → Leads T F i → Leads T F j → place_of n T i < place_of n T j → place_of n T j < b → word_of W' i < word_of W' j
  pub each : (k : ℕ) → 0 < k → k ≤ count → (i : ℕ) × Leads T F i × (place_of n T i < b) × (word_of W' i ≡ leading + k)
  pub few : count ≤ b

-- what counting off row y from `first` asks, `before` being the leaders of the rows above
pub record Row (W' : List ℕ) (first before : ℕ) : Type 0 where
  pub n : ℕ
  pub T : List ℕ
  pub F : List ℕ
  pub W : List ℕ
  pub R : List ℕ
  pub y : ℕ
  pub full : Full n T F W R
  pub head : first ≡ row_of R y
  pub row : y < 2 ^ top_level
  pub counted : Counted n T F W (y * 2 ^ top_level) before W'

-- and what it leaves
abbrev pub RowOff : List ℕ → ℕ → ℕ → ℕ → List ℕ → Type 0
RowOff W' first before count W'' = (z : Row W' first before) → Counted z.n z.T z.F z.W ((z.y + 1) * 2 ^ top_level) count W''

-- what counting off all rows asks
pub record Rows (W R : List ℕ) (side : ℕ) : Type 0 where
  pub n : ℕ
  pub T : List ℕ
  pub F : List ℕ
  pub full : Full n T F W R
  pub within : side ≤ 2 ^ top_level

abbrev pub RowsOff : List ℕ → List ℕ → ℕ → ℕ → List ℕ → Type 0
RowsOff W R side count W' = (z : Rows W R side) → Counted z.n z.T z.F W (side * 2 ^ top_level) count W'
