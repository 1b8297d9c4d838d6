-- `ponds_sides::sides`: a black leaf's sides, or nothing.
use Rattle.ponds_sets.proofs.ShoreLaws.{quiet_shores}
use Rattle.ponds_sides.proofs.LeafLaws.{sides_wet}
use Rattle.ponds_sides.proofs.sides.Goals as goal

pub returns-then-quiet : goal.returns-then-quiet
returns-then-quiet c = let q = c.quiet.ensures c.if-quiet.true in sides_wet c.if-kind-ne-BLACK.false (quiet_shores q.0 q.1)
