-- `raster_decode::paint_fork`: four pixels at level 1; else the first q quarters are painted. The measure is the level.
use Rattle.raster_fill.specs.Painting.{Painted, in_quarters, colours_at}
use Prim.Native.Nat.{◌-◌}
use Rattle.raster_decode.proofs.+paint_fork.Given as goal

abbrev pub decreases-paint_fork : goal.decreases-paint_fork
decreases-paint_fork l = l.level

abbrev pub invariant-loop-q : goal.invariant-loop-q
invariant-loop-q l = Painted l.n (in_quarters (l.level - 1) l.x l.y l.q) (colours_at l.table l.level l.p) l.initial.raster l.raster
