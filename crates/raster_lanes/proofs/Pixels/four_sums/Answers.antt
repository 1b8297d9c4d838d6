-- `raster_lanes::Pixels::four_sums`: two rows, and each byte with the next.
use mathlib.Core.Path.{◌∙◌}
use Rattle.raster_lanes.proofs.LaneLaws.{bits_last}
use Rattle.raster_lanes.proofs.WindowLaws.{sums_are}
use Rattle.raster_lanes.proofs.Pixels.four_sums.Goals as goal

pub returns : goal.returns
returns c = c.bits.ensures ∙ bits_last _ ∙ sums_are _ _ _ c.args.self.now.colours _ c.two_rows-rows.ensures.0
