-- Pixels as parts of one number: eight bytes, each a pixel or a sum of pixels of its column; or four lanes of sixteen
-- bits, each the sum of a block of level 1.
use Rattle.std.specs.Prelude.{cond, List, ◌≡◌, ℕ, ◌+◌, ◌-◌, ◌*◌, ◌/◌, ◌%◌, ◌≤◌, eqb, get_or}
use Rattle.quad.specs.Numbers.{fork_type}
use Rattle.raster.specs.Sums.{four_sum}

-- the raster R, w bytes wide, as it is seen from place a on
unfoldable pub window : List ℕ → ℕ → ℕ → ℕ → ℕ → ℕ
window R w a i j = get_or R (a + j * w + i) 0

-- two, four and eight bytes from a place on as one number
unfoldable pub two_from : List ℕ → ℕ → ℕ
two_from R a = get_or R a 0 + 256 * get_or R (a + 1) 0

unfoldable pub four_from : List ℕ → ℕ → ℕ
four_from R a = two_from R a + 65536 * two_from R (a + 2)

unfoldable pub eight_from : List ℕ → ℕ → ℕ
eight_from R a = four_from R a + 4294967296 * four_from R (a + 4)

-- eight pixels that are all black
abbrev pub black_row : ℕ
black_row = 72340172838076673

-- two, four and eight rows of eight bytes, added up
unfoldable pub two_rows : List ℕ → ℕ → ℕ → ℕ
two_rows R w a = eight_from R a + eight_from R (a + w)

unfoldable pub four_rows : List ℕ → ℕ → ℕ → ℕ
four_rows R w a = two_rows R w a + two_rows R w (a + 2 * w)

unfoldable pub eight_rows : List ℕ → ℕ → ℕ → ℕ
eight_rows R w a = four_rows R w a + four_rows R w (a + 4 * w)

-- the type of a block whose rows add up to s, where black ones add up to m
unfoldable pub kind_of : ℕ → ℕ → ℕ
kind_of s m = cond (eqb s 0) 0 (cond (eqb s m) 1 fork_type)

-- four lanes
abbrev pub packed : ℕ → ℕ → ℕ → ℕ → ℕ
packed a b c d = a + 65536 * b + 4294967296 * c + 281474976710656 * d

-- the sums of the blocks (0, y) to (3, y) of level 1
abbrev pub sums_from : (ℕ → ℕ → ℕ) → ℕ → ℕ
sums_from f y = packed (four_sum f 0 y) (four_sum f 1 y) (four_sum f 2 y) (four_sum f 3 y)

-- four sums of four pixels each
pub record FourSums (v : ℕ) : Type 0 where
  pub a : ℕ
  pub b : ℕ
  pub c : ℕ
  pub d : ℕ
  pub is : v ≡ packed a b c d
  pub few : (a ≤ 4) × (b ≤ 4) × (c ≤ 4) × (d ≤ 4)

-- of each lane the bits from the one that counts d on, as many as m numbers need
unfoldable pub lane_bits : ℕ → ℕ → ℕ → ℕ
lane_bits d m v = packed (v / d % m) (v / 65536 / d % m) (v / 65536 / 65536 / d % m) (v / 65536 / 65536 / 65536 / d % m)

-- the lanes' last three bits
unfoldable pub last_bits : ℕ → ℕ
last_bits v = packed (v % 8) (v / 65536 % 8) (v / 65536 / 65536 % 8) (v / 65536 / 65536 / 65536 % 8)

-- the lanes' third bits
unfoldable pub fourths_of : ℕ → ℕ
fourths_of v = packed (v / 4 % 2) (v / 65536 / 4 % 2) (v / 65536 / 65536 / 4 % 2) (v / 65536 / 65536 / 65536 / 4 % 2)

-- 1 in the lanes of the blocks that are forks, by their sums
unfoldable pub mixed_lanes : ℕ → ℕ
mixed_lanes v = fourths_of (v + 844437815230467) - fourths_of v

-- the sum of the lanes
unfoldable pub lane_sum : ℕ → ℕ
lane_sum v = v % 65536 + v / 65536 % 65536 + v / 65536 / 65536 % 65536 + v / 65536 / 65536 / 65536

-- how many of the two sums that are in the first and the third lane are neither 0 nor 16
unfoldable pub mixed_two : ℕ → ℕ
mixed_two v = (v % 65536 + 15) / 16 + (v / 65536 / 65536 % 65536 + 15) / 16 - (v % 65536 / 16 + v / 65536 / 65536 % 65536 / 16)

-- the forks of two blocks of level 2 side by side, from the sums of the blocks of level 1 in their upper and in their
-- lower half
unfoldable pub forks_of : ℕ → ℕ → ℕ
forks_of a b = lane_sum (mixed_lanes a + mixed_lanes b) + mixed_two (a + b + (a + b) / 65536)
