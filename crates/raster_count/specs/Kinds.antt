-- How building reads four pixels at once, and what it knows of a block whose type, and those of the blocks below it,
-- are noted.
use Rattle.std.specs.Prelude.{List, ◌≡◌, ℕ, ◌+◌, ◌-◌, ◌*◌, ◌^◌, ◌≤◌}
use Rattle.raster_notes.specs.Notes.{slots_of, Noted}

-- the pixels of row y in column x of the blocks of level 2, as one number
unfoldable pub four_pixels : (ℕ → ℕ → ℕ) → ℕ → ℕ → ℕ
four_pixels f x y = f (2 * (2 * x)) y + 256 * f (2 * (2 * x) + 1) y + 65536 * f (2 * (2 * x + 1)) y + 16777216 * f (2 * (2 * x + 1) + 1) y

-- the block (x, y) of level l on the sheet R of level n is noted in K, in t slots from slot s on
pub record Known (n : ℕ) (R K : List ℕ) (l x y s t : ℕ) : Type 0 where
  pub noted : Noted R (2 ^ n) K (l - 3) l s (y * 2 ^ l * 2 ^ n + x * 2 ^ l)
  pub slots : t ≡ slots_of (l - 3)
  pub room : s + t ≤ 341
