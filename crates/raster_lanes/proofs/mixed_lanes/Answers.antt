-- `raster_lanes::mixed_lanes`: the raised lanes less those as they are.
use mathlib.Core.Path.{◌∙◌}
use Rattle.raster_lanes.specs.Lanes.{mixed_lanes}
use Rattle.raster_lanes.proofs.LaneLaws.{bits_fourths, fourths_rise, mixed_lanes_few}
use Rattle.raster_lanes.proofs.mixed_lanes.Goals as goal

pub overflow_sub-result : goal.overflow_sub-result
overflow_sub-result c = rw (c.bits.ensures ∙ bits_fourths _, c.bits-2.ensures ∙ bits_fourths _) (fourths_rise _ c.requires)

pub returns : goal.returns
unfolding mixed_lanes
returns c = (rw (c.bits.ensures ∙ bits_fourths _, c.bits-2.ensures ∙ bits_fourths _), rw (c.bits.ensures ∙ bits_fourths _, c.bits-2.ensures ∙ bits_fourths _) (mixed_lanes_few _ c.requires))
