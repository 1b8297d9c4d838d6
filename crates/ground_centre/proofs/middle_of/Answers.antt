-- `ground_centre::middle_of`: the same formula for column and row.
use Rattle.ground_centre.proofs.CentreLaws.{across_fits, down_fits, middle_is}
use borrow.Author.Rules.{rules}
use Rattle.ground_centre.proofs.middle_of.Goals as goal

pub half_pixels-h-requires : goal.half_pixels-h-requires
half_pixels-h-requires c = across_fits (record { accepted = c.args.sheet.now.accepted; node = c.requires }) c.block_of-b.ensures

pub half_pixels-k-requires : goal.half_pixels-k-requires
half_pixels-k-requires c = down_fits (record { accepted = c.args.sheet.now.accepted; node = c.requires }) c.block_of-b.ensures

pub returns : goal.returns
returns c = search (middle_is, rules)
