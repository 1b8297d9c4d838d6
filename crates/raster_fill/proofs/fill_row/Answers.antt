use native.Mathlib.Omega.{arith}
use Rattle.raster_fill.proofs.PaintingLaws.{filled_none, filled_more}
use Rattle.raster_fill.proofs.fill_row.Goals as goal

pub loop-i-init : goal.loop-i-init
loop-i-init c = filled_none _ _ _

pub bounds-raster-start : goal.bounds-raster-start
bounds-raster-start c = omega (arith, c.loop-i.invariant.size, c.requires, c.loop-i-test.true)

pub loop-i-preserved : goal.loop-i-preserved
loop-i-preserved c = filled_more _ _ _ _ _ (omega (arith, c.loop-i.invariant.size, c.requires, c.loop-i-test.true)) c.loop-i.invariant
