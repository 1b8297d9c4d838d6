-- What the second pass of building asks and gives, for a block of any level.
use Rattle.std.specs.Prelude.{List, ℕ}
use Rattle.quad.specs.Tree.{tree_of}
use Rattle.table.specs.Writing.{Ready, Put}
use Rattle.raster.specs.Raster.{picture_of}
use Rattle.raster.specs.Blocks.{Picture, OnSheet}

-- the tree of the block (x, y) of level l on the sheet R of level n may be written from node p on, in a table of so
-- many words
pub record BlockToPut (n : ℕ) (R : List ℕ) (l x y p words : ℕ) : Type 0 where
  pub picture : Picture n R
  pub on : OnSheet n l x y
  pub ready : Ready (tree_of (picture_of n R) l x y) p words

-- the block's tree was written, its root node p with father f, and r is the next node
abbrev pub BlockPut : ℕ → List ℕ → ℕ → ℕ → ℕ → ℕ → ℕ → List ℕ → List ℕ → ℕ → Type 0
BlockPut n R l x y f p before after r = Put (tree_of (picture_of n R) l x y) f p before after r
