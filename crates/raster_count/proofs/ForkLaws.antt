-- A block that is a fork: its level, and its sons, each of them the tree of a quarter.
use mathlib.Core.List.{List}
use mathlib.Core.Path.{◌≡◌}
use Prim.Native.Nat.{ℕ, zero, suc, ◌+◌, ◌-◌, ◌*◌, ◌/◌, ◌%◌, ◌^◌, ◌<◌}
use native.Mathlib.Omega.{arith}
use Rattle.quad.specs.Numbers.{fork_type}
use Rattle.quad.specs.Tree.{son_of, colour, tree_of}
use Rattle.quad.proofs.PictureLaws.{tree_son}
use Rattle.table.proofs.WritingLaws.{Forked, forked}
use Rattle.raster.specs.Raster.{picture_of}
use Rattle.raster.specs.Blocks.{Picture}
use Rattle.raster.proofs.BlockLaws.{block_coloured}

pub tree_of_son : (f : ℕ → ℕ → ℕ) (l X Y q : ℕ) → 0 < l → q < 4 → son_of (tree_of f l X Y) q ≡ tree_of f (l - 1) (2 * X + q % 2) (2 * Y + q / 2)
tree_of_son f zero X Y q pos lt = absurd (omega arith)
tree_of_son f (suc l) X Y q pos lt =
    let e : suc l - 1 ≡ l = omega arith in
    rw e (tree_son f l X Y q lt)

-- the block (X, Y) is a fork
module _ (n l X Y : ℕ) (R : List ℕ) (pic : Picture n R) where
  pub block_forked : colour (tree_of (picture_of n R) l X Y) ≡ fork_type → Forked (tree_of (picture_of n R) l X Y)
  block_forked e = forked _ (block_coloured n R pic l X Y) e

  pub fork_pos : colour (tree_of (picture_of n R) l X Y) ≡ fork_type → 0 < l
  fork_pos e = go l e
    where
      go : (l : ℕ) → colour (tree_of (picture_of n R) l X Y) ≡ fork_type → 0 < l
      go zero e = absurd (unfold tree_of colour in omega (arith, pic.colours (Y * 2 ^ n + X), e))
      go (suc l) e = omega arith
