-- `raster_check::readable`: the level, the length, the bytes, in this order.
use Rattle.raster.proofs.TestLaws.{readable_level, readable_length, readable_short, readable_pixels}
use borrow.Author.Rules.{rules}
use Rattle.raster_check.proofs.readable.Goals as goal

pub returns-then-n-gt-TOP_LEVEL : goal.returns-then-n-gt-TOP_LEVEL
returns-then-n-gt-TOP_LEVEL c = search (readable_level, rules)

pub returns-in_err-raster_length : goal.returns-in_err-raster_length
returns-in_err-raster_length c = search (readable_length, rules)

pub pixels-requires : goal.pixels-requires
pixels-requires c = search (readable_short, rules)

pub returns : goal.returns
returns c = search (readable_pixels, rules)
