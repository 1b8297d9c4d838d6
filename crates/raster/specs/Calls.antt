-- The two outside calls: what each gives back and what it leaves in the slice that it is lent, for every input.
use Rattle.std.specs.Prelude.{List, ◌≡◌, ℕ, length}
use Rattle.answer.specs.Numbers.{Outcome}
use Rattle.raster.specs.Raster.{build_of, built_table, decode_of, decoded_raster}

-- building from the raster R: the outcome, and the table `before` as it is `after`
pub record Building (n : ℕ) (R before : List ℕ) (outcome : Outcome) (after : List ℕ) : Type 0 where
  pub answer : outcome ≡ build_of n R (length before)
  pub table : after ≡ built_table n R before

-- decoding the table T: the outcome, and the raster `before` as it is `after`
pub record Decoding (n : ℕ) (T before : List ℕ) (outcome : Outcome) (after : List ℕ) : Type 0 where
  pub answer : outcome ≡ decode_of n T (length before)
  pub raster : after ≡ decoded_raster n T before
