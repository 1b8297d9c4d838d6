-- Blocks of a sheet: quarters, corners and rows lie on it, and a block's tree is the join of its quarters'.
use mathlib.Core.List.{List}
use mathlib.Core.Path.{◌≡◌}
use Prim.Native.Nat.{ℕ, suc, ◌+◌, ◌-◌, ◌*◌, ◌/◌, ◌^◌, ◌≤◌, ◌<◌}
use native.Mathlib.Nat.{div-lt_iff_lt-mul, suc-mul, mul-le-mul_right, pow-succ', pow-le-pow_right}
use native.Mathlib.Omega.{arith}
use lib.Arith.{digits_lt}
use lib.Pow.{pow_pos}
use Rattle.base.proofs.PowLaws.{pow_product, four_pow}
use Rattle.quad.specs.Numbers.{top_level}
use Rattle.quad.specs.Tree.{Coloured, tree_of}
use Rattle.quad.proofs.TreeLaws.{pixels_top}
use Rattle.quad.proofs.PictureLaws.{tree_coloured}
use Rattle.raster.specs.Raster.{picture_of}
use Rattle.raster.specs.Blocks.{Picture, OnSheet}

-- a quarter of a block
pub on_son : {n l x y : ℕ} → OnSheet n l x y → 0 < l → (u v : ℕ) → u ≤ 2 * x + 1 → v ≤ 2 * y + 1 → OnSheet n (l - 1) u v
on_son {n} {l} o pos u v hu hv =
    let e : n - (l - 1) ≡ suc (n - l) = omega (arith, o) in
    let p = pow-succ' 2 (n - l) in
    record { low = omega (arith, o); across = rw e (omega (arith, o)); down = rw e (omega (arith, o)) }

pub on_small : {n l x y : ℕ} → n ≤ top_level → OnSheet n l x y → (x < 2 ^ top_level) × (y < 2 ^ top_level)
on_small {n} {l} top o =
    let p : 2 ^ (n - l) ≤ 2 ^ top_level = pow-le-pow_right (omega arith) {i = n - l} {j = top_level} (omega arith) in
    (omega (arith, o), omega (arith, o))

-- a pixel's place, and a place's row
pub row_of_place : (n i : ℕ) → i < 4 ^ n → i / 2 ^ n < 2 ^ n
row_of_place n i lt = (div-lt_iff_lt-mul {k = 2 ^ n} {x = i} {y = 2 ^ n} (pow_pos n)).1 (rw (four_pow n) at lt)

pub digits_four : (n x y : ℕ) → x < 2 ^ n → y < 2 ^ n → y * 2 ^ n + x < 4 ^ n
digits_four n x y hx hy = rw (four_pow n) (digits_lt hy hx)

pub place_lt : {n x y : ℕ} → OnSheet n 0 x y → y * 2 ^ n + x < 4 ^ n
place_lt {n} {x} {y} o =
    let e : n - 0 ≡ n = omega arith in
    let hy : y < 2 ^ n = rw e at o.down in
    let hx : x < 2 ^ n = rw e at o.across in
    digits_four n x y hx hy

pub place_fits : {n x y : ℕ} → n ≤ top_level → OnSheet n 0 x y → y * 2 ^ n + x < 4 ^ top_level
place_fits {n} top o = omega (arith, place_lt o, pixels_top n top)

module _ (n : ℕ) (R : List ℕ) (pic : Picture n R) where
  pub block_coloured : (l x y : ℕ) → Coloured (tree_of (picture_of n R) l x y)
  block_coloured l x y = tree_coloured (picture_of n R) l x y (λ i j hi hj. pic.colours (j * 2 ^ n + i))

pub square_fits : (n s : ℕ) → n ≤ top_level → s ≡ 2 ^ n → s * s ≤ 4 ^ top_level
square_fits n s top e = rw (e, ← four_pow n) (pixels_top n top)

-- a block ends where the sheet does, or before; and so do its rows
pub block_fits : {n l x y : ℕ} → OnSheet n l x y → (x * 2 ^ l + 2 ^ l ≤ 2 ^ n) × (y * 2 ^ l + 2 ^ l ≤ 2 ^ n)
block_fits {n} {l} {x} {y} o =
    let low = o.low in
    let s : n - l + l ≡ n = omega arith in
    let e = pow_product (n - l) l n s in
    (omega (arith, suc-mul x (2 ^ l), mul-le-mul_right (2 ^ l) o.across), omega (arith, suc-mul y (2 ^ l), mul-le-mul_right (2 ^ l) o.down))

pub corner_small : {n l x y : ℕ} → n ≤ top_level → OnSheet n l x y → (x * 2 ^ l + 2 ^ l ≤ 2 ^ top_level) × (y * 2 ^ l + 2 ^ l ≤ 2 ^ top_level)
corner_small {n} top o =
    let fit = block_fits o in
    let small = pow-le-pow_right {n = 2} (omega arith) {i = n} {j = top_level} top in
    (omega arith, omega arith)

pub row_place : {n l x y : ℕ} → n ≤ top_level → OnSheet n l x y → (j : ℕ) → j < 2 ^ l
    → ((y * 2 ^ l + j) * 2 ^ n + x * 2 ^ l + 2 ^ l ≤ 4 ^ n) × (4 ^ n ≤ 4 ^ top_level)
row_place {n} {l} {x} {y} top o j lt =
    let fit = block_fits o in
    let t : ℕ = y * 2 ^ l + j in
    let below : t < 2 ^ n = omega arith in
    (rw (four_pow n) (omega (arith, suc-mul t (2 ^ n), mul-le-mul_right (2 ^ n) below)), pixels_top n top)
