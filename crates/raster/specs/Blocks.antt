-- What the passes over a raster know of a block and its tree: inner facts that no outside call states.
use Rattle.std.specs.Prelude.{Err, List, ◌≡◌, ℕ, ◌-◌, ◌^◌, ◌≤◌, ◌<◌, ltb, length, get_or}
use Rattle.answer.specs.declared.Refusal.TheVariants.{BadLevel}
use Rattle.answer.specs.Numbers.{Outcome, and_then, unless}
use Rattle.quad.specs.Numbers.{top_level}
use Rattle.raster.specs.Sums.{Colours}
use Rattle.raster.specs.Raster.{raster_length, pixels_from}

-- no byte is above m
abbrev pub NoneAbove : ℕ → List ℕ → Type 0
NoneAbove m R = (i : ℕ) → i < length R → get_or R i 0 ≤ m

-- a raster of level n that is not refused: 4 ^ n bytes, all of them colours
pub record Picture (n : ℕ) (R : List ℕ) : Type 0 where
  pub top : n ≤ top_level
  pub whole : length R ≡ 4 ^ n
  pub colours : Colours R

-- the tests that a raster's picture is read after: 1, 2, 8
unfoldable pub readable_of : ℕ → List ℕ → Outcome
readable_of n R = and_then (unless (ltb top_level n) (Err (BadLevel 0))) (and_then (raster_length n (length R)) (pixels_from R 0))

-- the block (x, y) of level l lies on a sheet of level n
pub record OnSheet (n l x y : ℕ) : Type 0 where
  pub low : l ≤ n
  pub across : x < 2 ^ (n - l)
  pub down : y < 2 ^ (n - l)
