-- How decoding fills a raster: a leaf its block, row by row. What each step leaves is said of every place, or of every
-- pixel by its column and row.
use Rattle.std.specs.Prelude.{Bool, cond, ◌&&◌, List, ◌≡◌, ℕ, ◌+◌, ◌*◌, ◌/◌, ◌^◌, ◌<◌, leb, ltb, eqb, length, get_or}
use Rattle.quad.specs.Block.{quadrant_of}
use Rattle.quad.specs.Tree.{shade}
use Rattle.table.specs.Rules.{AtLevel}
use Rattle.table.specs.Nodes.{tree_at}
use Rattle.raster.specs.Blocks.{OnSheet}

-- k is one of the w numbers from a on
unfoldable pub among : ℕ → ℕ → ℕ → Bool
among a w k = leb a k && ltb k (a + w)

-- the w bytes from place a on became c, and no other byte changed
pub record BytesFilled (a w c : ℕ) (before after : List ℕ) : Type 0 where
  pub size : length after ≡ length before
  pub bytes : (k : ℕ) → get_or after k 0 ≡ cond (among a w k) c (get_or before k 0)

-- the pixels of which a test holds became those of g, and no other pixel of a sheet of level n changed
pub record Painted (n : ℕ) (here : ℕ → ℕ → Bool) (g : ℕ → ℕ → ℕ) (before after : List ℕ) : Type 0 where
  pub size : length after ≡ length before
  pub pixels : (x y : ℕ) → x < 2 ^ n → y < 2 ^ n → get_or after (y * 2 ^ n + x) 0 ≡ cond (here x y) (g x y) (get_or before (y * 2 ^ n + x) 0)

-- the pixel (x, y) lies in the block (X, Y) of level l
unfoldable pub in_block : ℕ → ℕ → ℕ → ℕ → ℕ → Bool
in_block l X Y x y = eqb (x / 2 ^ l) X && eqb (y / 2 ^ l) Y

-- it lies in the first j rows of that block
unfoldable pub in_the_rows : ℕ → ℕ → ℕ → ℕ → ℕ → ℕ → Bool
in_the_rows l X Y j x y = eqb (x / 2 ^ l) X && among (Y * 2 ^ l) j y

-- it lies in one of the first q quarters of the block (X, Y) of the level above l
unfoldable pub in_quarters : ℕ → ℕ → ℕ → ℕ → ℕ → ℕ → Bool
in_quarters l X Y q x y = in_block (l + 1) X Y x y && ltb (quadrant_of (x / 2 ^ l) (y / 2 ^ l)) q

-- the colours of the tree that node p stands for at level l
abbrev pub colours_at : List ℕ → ℕ → ℕ → ℕ → ℕ → ℕ
colours_at T l p = shade l (tree_at T l p)

-- node p is the block (x, y) of level l, for which the raster has its place
pub record Paintable (n : ℕ) (T : List ℕ) (p l x y bytes : ℕ) : Type 0 where
  pub place : AtLevel n T p l
  pub block : OnSheet n l x y
  pub whole : bytes ≡ 4 ^ n
