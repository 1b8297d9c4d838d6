-- Four pixels are read at once, as four bytes, and so are the sums of two blocks of four pixels.
use mathlib.Core.List.{List}
use mathlib.Core.Path.{◌≡◌, ◌∙◌}
use Prim.Native.Nat.{ℕ, ◌+◌, ◌*◌, ◌/◌, ◌%◌, ◌^◌, ◌≤◌}
use native.Mathlib.Omega.{arith}
use lib.ListN.{length}
use Rattle.quad.specs.Numbers.{top_level}
use Rattle.raster.specs.Sums.{four_sum}
use Rattle.raster.specs.Raster.{picture_of}
use Rattle.raster.specs.Blocks.{Picture, OnSheet}
use Rattle.raster.proofs.BlockLaws.{place_lt, place_fits}
use Rattle.raster_lanes.specs.Lanes.{two_from, four_from}
use Rattle.raster_count.specs.Kinds.{four_pixels}

-- a pixel is 0 or 1
pub pixel_few : {n : ℕ} {R : List ℕ} → Picture n R → (x y k : ℕ) → k ≡ picture_of n R x y → k ≤ 1
pixel_few {n} pic x y k e = omega (arith, pic.colours (y * 2 ^ n + x))

-- four pixels of a row: where they stand, and that the four bytes there are they
pub four_place : {n y : ℕ} {R : List ℕ} (x : ℕ) → Picture n R → OnSheet n 0 (2 * (2 * x + 1) + 1) y
    → (y * 2 ^ n + 4 * x + 4 ≤ length R) × (y * 2 ^ n + 4 * x + 4 ≤ 4 ^ top_level)
four_place x pic o = (omega (arith, place_lt o, pic.whole), omega (arith, place_fits pic.top o))

pub four_bytes : (n x y : ℕ) (R : List ℕ) → four_from R (y * 2 ^ n + 4 * x) ≡ four_pixels (picture_of n R) x y
unfolding four_from two_from four_pixels
four_bytes n x y R =
    let a : y * 2 ^ n + 2 * (2 * x) ≡ y * 2 ^ n + 4 * x = omega arith in
    let b : y * 2 ^ n + (2 * (2 * x) + 1) ≡ y * 2 ^ n + 4 * x + 1 = omega arith in
    let c : y * 2 ^ n + 2 * (2 * x + 1) ≡ y * 2 ^ n + 4 * x + 2 = omega arith in
    let d : y * 2 ^ n + (2 * (2 * x + 1) + 1) ≡ y * 2 ^ n + 4 * x + 2 + 1 = omega arith in
    rw (a, b, c, d) (omega arith)

-- two rows of four pixels, added up as numbers: the sums of two blocks side by side
carried : (a b c d : ℕ) → a ≤ 2 → b ≤ 2 → c ≤ 2 → d ≤ 2 → (s : ℕ) → s ≡ a + 256 * b + 65536 * c + 16777216 * d
    → s + s / 256 ≡ a + b + 256 * (b + c) + 65536 * (c + d + 256 * d)
carried a b c d ha hb hc hd s e =
    let q : s / 256 ≡ b + 256 * c + 65536 * d = omega arith in
    omega arith

-- the low lane and the next
low_lane : (p m q : ℕ) → p ≤ 4 → m ≤ 4 → (u : ℕ) → u ≡ p + 256 * m + 65536 * q → (u % 8 ≡ p) × (u / 65536 ≡ q)
low_lane p m q hp hm u e = (omega arith, omega arith)

high_lane : (p m q : ℕ) → p ≤ 4 → q ≡ p + 256 * m → q % 8 ≡ p
high_lane p m q hp e = omega arith

in_pairs : (a b c d : ℕ) → a + c + (b + d) ≡ a + b + c + d
in_pairs a b c d = omega arith

pub two_blocks : (f : ℕ → ℕ → ℕ) → ((x y : ℕ) → f x y ≤ 1) → (x y north south : ℕ) → north ≡ four_pixels f x (2 * y) → south ≡ four_pixels f x (2 * y + 1)
    → ((north + south + (north + south) / 256) % 8 ≡ four_sum f (2 * x) y) × ((north + south + (north + south) / 256) / 65536 % 8 ≡ four_sum f (2 * x + 1) y)
unfolding four_pixels four_sum
two_blocks f few x y north south en es =
    let a : ℕ = f (2 * (2 * x)) (2 * y) + f (2 * (2 * x)) (2 * y + 1) in
    let b : ℕ = f (2 * (2 * x) + 1) (2 * y) + f (2 * (2 * x) + 1) (2 * y + 1) in
    let c : ℕ = f (2 * (2 * x + 1)) (2 * y) + f (2 * (2 * x + 1)) (2 * y + 1) in
    let d : ℕ = f (2 * (2 * x + 1) + 1) (2 * y) + f (2 * (2 * x + 1) + 1) (2 * y + 1) in
    let ha : a ≤ 2 = omega (arith, few (2 * (2 * x)) (2 * y), few (2 * (2 * x)) (2 * y + 1)) in
    let hb : b ≤ 2 = omega (arith, few (2 * (2 * x) + 1) (2 * y), few (2 * (2 * x) + 1) (2 * y + 1)) in
    let hc : c ≤ 2 = omega (arith, few (2 * (2 * x + 1)) (2 * y), few (2 * (2 * x + 1)) (2 * y + 1)) in
    let hd : d ≤ 2 = omega (arith, few (2 * (2 * x + 1) + 1) (2 * y), few (2 * (2 * x + 1) + 1) (2 * y + 1)) in
    let s = carried a b c d ha hb hc hd (north + south) (omega arith) in
    let lanes = low_lane (a + b) (b + c) (c + d + 256 * d) (omega arith) (omega arith) _ s in (
      lanes.0 ∙ in_pairs (f (2 * (2 * x)) (2 * y)) (f (2 * (2 * x) + 1) (2 * y)) (f (2 * (2 * x)) (2 * y + 1)) (f (2 * (2 * x) + 1) (2 * y + 1)),
      high_lane (c + d) d _ (omega arith) lanes.1
          ∙ in_pairs (f (2 * (2 * x + 1)) (2 * y)) (f (2 * (2 * x + 1) + 1) (2 * y)) (f (2 * (2 * x + 1)) (2 * y + 1)) (f (2 * (2 * x + 1) + 1) (2 * y + 1)),
    )
