-- `ponds_pixels::pass_pixels`: nothing where the greatest number is 0; one growth where all that have a number have
-- it; else pixel by pixel.
use borrow.Author.Rules.{rules}
use Rattle.ponds_pixels.proofs.PixelLaws.{pixel_below, pixels_none, four_stands, four_fits, pixels_alike}
use Rattle.ponds_pixels.proofs.pass_pixels.Goals as goal

pub son_number-requires : goal.son_number-requires
son_number-requires c = search (pixel_below, rules)

pub son_number-requires-2 : goal.son_number-requires-2
son_number-requires-2 c = search (pixel_below, rules)

pub son_number-requires-3 : goal.son_number-requires-3
son_number-requires-3 c = search (pixel_below, rules)

pub son_number-requires-4 : goal.son_number-requires-4
son_number-requires-4 c = search (pixel_below, rules)

pub returns-then-number-eq0 : goal.returns-then-number-eq0
returns-then-number-eq0 c z = search (pixels_none, rules)

pub grow_four-requires : goal.grow_four-requires
grow_four-requires c = search (four_stands, four_fits, rules)

pub returns-then-alike : goal.returns-then-alike
returns-then-alike c z = search (pixels_alike, rules)
