-- `raster_fill::fill_block`: the first j rows are filled.
use Rattle.raster_fill.specs.Painting.{Painted, in_the_rows}
use Rattle.raster_fill.proofs.fill_block.Given as goal

abbrev pub invariant-loop-j : goal.invariant-loop-j
invariant-loop-j l =
    Painted l.n (in_the_rows l.level l.x l.y l.j) (λ i k. l.colour) l.initial.raster l.raster
