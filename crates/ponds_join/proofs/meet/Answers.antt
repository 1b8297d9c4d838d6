-- `ponds_join::meet`: nothing, or two sets joined.
use borrow.Author.Rules.{rules}
use Rattle.ponds_sets.proofs.LineLaws.{face_joining, face_joined, face_none}
use Rattle.ponds_join.proofs.meet.Goals as goal

pub join-requires : goal.join-requires
join-requires c = search (face_joining, rules)

pub returns-then-first_nonzero-label : goal.returns-then-first_nonzero-label
returns-then-first_nonzero-label c = search (face_joined, rules)

pub returns-else-first_nonzero-label : goal.returns-else-first_nonzero-label
returns-else-first_nonzero-label c = search (face_none, rules)
