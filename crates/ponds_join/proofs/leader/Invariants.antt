-- `ponds_join::leader`: on the way from p, whose measure is the place that it has come to: the words lead to earlier
-- leaves.
use Prim.Native.Nat.{suc}
use Rattle.ponds_sets.specs.Sets.{Asking}
use Rattle.ponds_join.proofs.JoinLaws.{OnWay}
use Rattle.ponds_join.proofs.WayLaws.{steps, places}
use Rattle.ponds_join.proofs.leader.Given as goal

abbrev pub invariant-loop-word : goal.invariant-loop-word
invariant-loop-word l = OnWay l.words l.p l.q l.word × Asking l.words l.p

abbrev pub decreases-loop-word : goal.decreases-loop-word
decreases-loop-word l = steps l.words (suc places) l.q
