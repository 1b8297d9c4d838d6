use native.Mathlib.Omega.{arith}
use Rattle.ponds_ranks.proofs.CountLaws.{rowing_none, rowing_all, going_node, going_less, going_more}
use Rattle.ponds_queues.proofs.QueueLaws.{words_few}
use Rattle.ponds_ranks.proofs.count_row.Goals as goal

pub loop-at-init : goal.loop-at-init
loop-at-init c = rowing_none

pub overflow_cast-p : goal.overflow_cast-p
overflow_cast-p c = let z = c.requires in let g = c.loop-at.invariant z in omega (arith, going_node z.full z.row g c.loop-at-test.true, g.counted.long, z.full.queued.size, words_few z.full.ready.sets.accepted)

pub offset_bounds-words-p : goal.offset_bounds-words-p
offset_bounds-words-p c = let z = c.requires in let g = c.loop-at.invariant z in omega (arith, going_node z.full z.row g c.loop-at-test.true, g.counted.long, z.full.queued.size, words_few z.full.ready.sets.accepted)

pub bounds-words-p : goal.bounds-words-p
bounds-words-p c = let z = c.requires in let g = c.loop-at.invariant z in going_node z.full z.row g c.loop-at-test.true

pub overflow_add-count : goal.overflow_add-count
overflow_add-count c = let z = c.requires in let g = c.loop-at.invariant z in omega (arith, going_less z.full z.row g c.loop-at-test.true)

pub overflow_add-words : goal.overflow_add-words
overflow_add-words c = let z = c.requires in let g = c.loop-at.invariant z in omega (arith, going_less z.full z.row g c.loop-at-test.true)

pub offset_bounds-words-p-in-loop-at : goal.offset_bounds-words-p-in-loop-at
offset_bounds-words-p-in-loop-at c = let z = c.requires in let g = c.loop-at.invariant z in omega (arith, going_node z.full z.row g c.loop-at-test.true, g.counted.long, z.full.queued.size, words_few z.full.ready.sets.accepted)

pub bounds-words-p-in-loop-at : goal.bounds-words-p-in-loop-at
bounds-words-p-in-loop-at c = let z = c.requires in let g = c.loop-at.invariant z in going_node z.full z.row g c.loop-at-test.true

pub loop-at-smaller : goal.loop-at-smaller
loop-at-smaller c = let z = c.requires in let g = c.loop-at.invariant z in omega (arith, going_less z.full z.row g c.loop-at-test.true)

pub loop-at-preserved : goal.loop-at-preserved
loop-at-preserved c = λ z. going_more z.full z.row (c.loop-at.invariant z) c.loop-at-test.true

pub returns : goal.returns
returns c = rowing_all c.loop-at.invariant c.loop-at-test.false
