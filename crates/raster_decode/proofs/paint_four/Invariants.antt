-- `raster_decode::paint_four`: the first q quarters are painted.
use Rattle.raster_fill.specs.Painting.{Painted, in_quarters, colours_at}
use Rattle.raster_decode.proofs.paint_four.Given as goal

abbrev pub invariant-loop-q : goal.invariant-loop-q
invariant-loop-q l = Painted l.n (in_quarters 0 l.x l.y l.q) (colours_at l.table 1 l.p) l.initial.raster l.raster
