-- `raster_large::large`: quarter by quarter. The measure is the level.
use Rattle.raster_notes.specs.Notes.{Parts}
use Rattle.raster_large.proofs.+large.Given as goal

abbrev pub decreases-large : goal.decreases-large
decreases-large l = l.level

abbrev pub invariant-loop-q : goal.invariant-loop-q
invariant-loop-q l = Parts l.pixels.bytes.now l.pixels.across l.at l.level l.slot l.q l.initial.kinds l.kinds l.nodes
