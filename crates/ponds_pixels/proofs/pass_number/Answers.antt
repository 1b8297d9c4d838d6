-- `ponds_pixels::pass_number`: nothing where the number is 0, else the entry before it grows.
use borrow.Author.Rules.{rules}
use Rattle.ponds_entry.proofs.WordLaws.{passed_none, passed_one, passing_stands, passing_fits}
use Rattle.ponds_pixels.proofs.pass_number.Goals as goal

pub returns-then-number-eq0 : goal.returns-then-number-eq0
returns-then-number-eq0 c = search (passed_none, rules)

pub grow_at-requires : goal.grow_at-requires
grow_at-requires c = search (passing_stands, passing_fits, rules)

pub returns : goal.returns
returns c = search (passed_one, rules)
