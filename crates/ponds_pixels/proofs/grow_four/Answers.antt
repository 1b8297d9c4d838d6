-- `ponds_pixels::grow_four`: the entry is read, grown and written.
use Rattle.ponds_pixels.proofs.FourLaws.{four_written}
use Rattle.ponds_entry.proofs.WordLaws.{fitting_read}
use borrow.Author.Rules.{rules}
use Rattle.ponds_pixels.proofs.grow_four.Goals as goal

pub grown_four-e-requires : goal.grown_four-e-requires
grown_four-e-requires c = search (fitting_read, rules)

pub returns : goal.returns
returns c = search (four_written, rules)
