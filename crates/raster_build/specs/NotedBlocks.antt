-- What the second pass of building asks of a block whose type, and those of the blocks below it, are noted.
use Rattle.std.specs.Prelude.{List, ◌≡◌, ℕ, ◌-◌, ◌^◌, ◌≤◌}
use Rattle.quad.specs.Numbers.{fork_type}
use Rattle.quad.specs.Tree.{colour, tree_of}
use Rattle.table.specs.Writing.{Ready}
use Rattle.raster.specs.Raster.{picture_of}
use Rattle.raster.specs.Blocks.{Picture}
use Rattle.raster_notes.specs.Notes.{Noted}
use Rattle.raster_count.specs.Kinds.{Known}
use Rattle.raster_put.specs.Putting.{BlockToPut}

-- the block (x, y) of level l, a fork above level 2, may be put; its notes are so many slots of K
pub record ForkToPut (n : ℕ) (R K : List ℕ) (l x y slot slots p words : ℕ) : Type 0 where
  pub block : BlockToPut n R l x y p words
  pub high : 3 ≤ l
  pub fork : colour (tree_of (picture_of n R) l x y) ≡ fork_type
  pub known : Known n R K l x y slot slots

-- the whole sheet R of level n may be put; its notes are K
pub record SheetToPut (n : ℕ) (R K : List ℕ) (words : ℕ) : Type 0 where
  pub picture : Picture n R
  pub noted : Noted R (2 ^ n) K (n - 3) n 0 0
  pub ready : Ready (tree_of (picture_of n R) n 0 0) 0 words
