-- `ponds_ranks::count_rows`: the rows before this one are counted off.
use Rattle.ponds_ranks.proofs.CountLaws.{Rowings}
use Rattle.ponds_ranks.proofs.count_rows.Given as goal

abbrev pub invariant-loop-first : goal.invariant-loop-first
invariant-loop-first l = Rowings l.initial.words l.rows l.side l.first-index l.count l.words
