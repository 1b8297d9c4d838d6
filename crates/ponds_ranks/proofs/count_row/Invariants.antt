-- `ponds_ranks::count_row`: the leaders before `at` are counted off. The measure is the numbers left.
use Prim.Native.Nat.{◌-◌, ◌^◌}
use Rattle.quad.specs.Numbers.{top_level}
use Rattle.ponds_ranks.proofs.CountLaws.{Rowing}
use Rattle.ponds_ranks.proofs.count_row.Given as goal

abbrev pub invariant-loop-at : goal.invariant-loop-at
invariant-loop-at l = Rowing l.initial.words l.first l.before l.count l.at l.words

abbrev pub decreases-loop-at : goal.decreases-loop-at
decreases-loop-at l = 4 ^ top_level - l.count
