-- Ponds in the raster, with nothing said of trees: a path of black pixels, each of which lies beside the next on a
-- side. Two pixels are in one pond exactly when such a path joins them (`proofs/PathLaws`), so a picture has one
-- numbering, whatever the numbers of its nodes.
use Rattle.std.specs.Prelude.{◌≡◌, ℕ, ◌+◌, ◌-◌, ◌^◌, ◌<◌}
use Rattle.quad.specs.Numbers.{black}
use Rattle.quad.specs.Direction.{east_step, south_step}

-- the pixel (x, y) of the picture f, of level n, is black
pub record Wet (n : ℕ) (f : ℕ → ℕ → ℕ) (x y : ℕ) : Type 0 where
  pub across : x < 2 ^ n
  pub down : y < 2 ^ n
  pub wet : f x y ≡ black

-- a path from one black pixel to another
pub data Path (n : ℕ) (f : ℕ → ℕ → ℕ) : ℕ → ℕ → ℕ → ℕ → Type 0 where
  stop : {x y : ℕ} → Wet n f x y → Path n f x y x y
  step : {x y u v : ℕ} → (D : ℕ) → D < 4 → Wet n f x y → 0 < x + east_step D → 0 < y + south_step D
      → Path n f (x + east_step D - 1) (y + south_step D - 1) u v → Path n f x y u v
