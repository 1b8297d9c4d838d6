-- `ponds_entry::grow_at`: the entry is read, grown and written.
use Rattle.ponds_entry.proofs.WordLaws.{fitting_read, grown_written}
use borrow.Author.Rules.{rules}
use Rattle.ponds_entry.proofs.grow_at.Goals as goal

pub grown-e-requires : goal.grown-e-requires
grown-e-requires c = search (fitting_read, rules)

pub returns : goal.returns
returns c = search (grown_written, rules)
