-- A raster by its pixels: its length, the pixel in column x and row y, and that two rasters with the same pixels are
-- the same.
use mathlib.Core.List.{List}
use mathlib.Core.Path.{◌≡◌, sym, ◌∙◌}
use Prim.Native.Nat.{ℕ, ◌+◌, ◌*◌, ◌/◌, ◌%◌, ◌^◌, ◌<◌}
use native.Mathlib.Nat.{zero-add, mod-lt}
use lib.ListN.{length}
use lib.Pow.{pow_pos, split, high, low}
use lib.Seq.{ext_get_or}
use Rattle.base.proofs.TabLaws.{tab_length, tab_at}
use Rattle.table.specs.Nodes.{pixel}
use Rattle.raster.specs.Raster.{picture_of, raster_of}
use Rattle.raster.proofs.BlockLaws.{row_of_place, digits_four}

module _ (n : ℕ) where
  pub raster_size : (T : List ℕ) → length (raster_of n T) ≡ 4 ^ n
  unfolding raster_of
  raster_size T = tab_length _ (4 ^ n) 0

  pub raster_pixel : (T : List ℕ) (x y : ℕ) → x < 2 ^ n → y < 2 ^ n → picture_of n (raster_of n T) x y ≡ pixel n T x y
  unfolding raster_of
  raster_pixel T x y hx hy =
      tab_at (λ i. pixel n T (i % 2 ^ n) (i / 2 ^ n)) (4 ^ n) 0 (y * 2 ^ n + x) (digits_four n x y hx hy)
      ∙ rw (zero-add, low y n hx, high y n hx)

  pub same_raster : (R S : List ℕ) → length R ≡ 4 ^ n → length S ≡ 4 ^ n
      → ((x y : ℕ) → x < 2 ^ n → y < 2 ^ n → picture_of n R x y ≡ picture_of n S x y) → R ≡ S
  same_raster R S lr ls h =
      ext_get_or 0 R S (lr ∙ sym ls) (λ i lt.
      let y : i / 2 ^ n < 2 ^ n = row_of_place n i (rw lr at lt) in
      rw (split i n) at (h (i % 2 ^ n) (i / 2 ^ n) (mod-lt i (pow_pos n)) y))
