-- `raster_put::put_pixels`: four leaves, and the fork's own words last.
use native.Mathlib.Omega.{arith}
use Rattle.raster.specs.Raster.{picture_of}
use Rattle.raster.proofs.BlockLaws.{on_son}
use Rattle.raster_put.proofs.PutLaws.{pixels_put}
use Rattle.raster_put.proofs.put_pixels.Goals as goal

pub pixel_at-nw-requires : goal.pixel_at-nw-requires
pixel_at-nw-requires c = on_son c.requires.0 (omega arith) _ _ (omega arith) (omega arith)

pub returns : goal.returns
returns c =
    pixels_put (picture_of c.args.raster.now.n c.args.raster.now.pixels.bytes.now) c.args.x c.args.y c.args.p c.args.father _ _ _ _ c.args.table.now _ _ _ _ _
    c.pixel_at-nw.ensures c.pixel_at-ne.ensures c.pixel_at-sw.ensures c.pixel_at-se.ensures
    c.put_leaf.ensures c.put_leaf-2.ensures c.put_leaf-3.ensures c.put_leaf-4.ensures c.put_node.ensures
