use native.Mathlib.Omega.{arith}
use Rattle.ponds_queues.proofs.WordLaws.{settling_none, next_there, two_there, settling_more, settling_all}
use Rattle.ponds_ranks.proofs.settle.Goals as goal

pub loop-p-init : goal.loop-p-init
loop-p-init c = settling_none _

pub offset_bounds-words-one : goal.offset_bounds-words-one
offset_bounds-words-one c =
    let h = c.requires in
    let k = c.loop-p.invariant.still h.end h.far h.ends in
    omega (arith, k.few, (next_there _ _ _ k _ _ (omega (arith, c.loop-p-test.true, c.loop-p.auto.words)) c.next-one.ensures).0)

pub bounds-words-one : goal.bounds-words-one
bounds-words-one c =
    let h = c.requires in
    let k = c.loop-p.invariant.still h.end h.far h.ends in
    (next_there _ _ _ k _ _ (omega (arith, c.loop-p-test.true, c.loop-p.auto.words)) c.next-one.ensures).0

pub offset_bounds-words-two : goal.offset_bounds-words-two
offset_bounds-words-two c =
    let h = c.requires in
    let k = c.loop-p.invariant.still h.end h.far h.ends in
    omega (arith, k.few, (two_there _ _ _ k _ _ _ (omega (arith, c.loop-p-test.true, c.loop-p.auto.words)) c.next-one.ensures c.next-two.ensures).0)

pub bounds-words-two : goal.bounds-words-two
bounds-words-two c =
    let h = c.requires in
    let k = c.loop-p.invariant.still h.end h.far h.ends in
    (two_there _ _ _ k _ _ _ (omega (arith, c.loop-p-test.true, c.loop-p.auto.words)) c.next-one.ensures c.next-two.ensures).0

pub follow-requires : goal.follow-requires
follow-requires c =
    let h = c.requires in
    let k = c.loop-p.invariant.still h.end h.far h.ends in
    record { end = h.end; far = h.far; ends = k; there = k.low _ (two_there _ _ _ k _ _ _ (omega (arith, c.loop-p-test.true, c.loop-p.auto.words)) c.next-one.ensures c.next-two.ensures).0 }

pub loop-p-preserved : goal.loop-p-preserved
loop-p-preserved c = settling_more c.loop-p-test.true c.next-one.ensures c.next-two.ensures c.follow.ensures c.loop-p.invariant

pub returns : goal.returns
returns c = settling_all c.loop-p-test.false c.loop-p.invariant
