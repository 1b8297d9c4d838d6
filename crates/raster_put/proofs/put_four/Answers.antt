-- `raster_put::put_four`: a leaf, or a fork over four pixels.
use Rattle.table.proofs.WritingLaws.{node_room}
use Rattle.raster_put.proofs.PutLaws.{to_put, four_put, pixels_wanted, pixels_are}
use Rattle.raster_put.proofs.put_four.Goals as goal

pub put_leaf-requires : goal.put_leaf-requires
put_leaf-requires c = node_room c.requires.1

pub returns-then-sum-eq0 : goal.returns-then-sum-eq0
returns-then-sum-eq0 c = four_put (to_put c.args.raster.now.picture c.requires) _ c.sum_four-sum.ensures.0 _ _ _ c.if-sum-eq0.true c.put_leaf.ensures

pub put_pixels-requires : goal.put_pixels-requires
put_pixels-requires c = pixels_wanted (to_put c.args.raster.now.picture c.requires) _ c.sum_four-sum.ensures.0 c.if-sum-eq0.false

pub returns : goal.returns
returns c = pixels_are (to_put c.args.raster.now.picture c.requires) _ c.sum_four-sum.ensures.0 c.if-sum-eq0.false _ _ _ _ c.put_pixels.ensures
