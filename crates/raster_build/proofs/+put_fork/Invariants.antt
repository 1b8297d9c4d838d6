-- `raster_build::put_fork`: the father word, then each quarter's number and part, and the type. The measure is the level.
use Rattle.quad.specs.Tree.{tree_of}
use Rattle.table.proofs.WritingLaws.{InTurn}
use Rattle.raster.specs.Raster.{picture_of}
use Rattle.raster_build.proofs.+put_fork.Given as goal

abbrev pub decreases-put_fork : goal.decreases-put_fork
decreases-put_fork l = l.level

abbrev pub invariant-loop-q : goal.invariant-loop-q
invariant-loop-q l =
    InTurn (tree_of (picture_of l.raster.n l.raster.pixels.bytes.now) l.level l.x l.y) l.p l.q l.next l.initial.table l.table
