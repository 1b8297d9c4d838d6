-- `raster_large::part_at`: a product at most twice.
use mathlib.Core.Path.{refl}
use Rattle.raster_notes.specs.Notes.{part_at}
use Rattle.raster_large.proofs.part_at.Goals as goal

pub returns : goal.returns
returns c = unfold part_at in refl
