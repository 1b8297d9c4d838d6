use mathlib.Core.Path.{refl}
use native.Mathlib.Omega.{arith}
use Rattle.table.proofs.AcceptedLaws.{fork_above, son_at}
use Rattle.table.proofs.TypeLaws.{told_fork, told_leaf}
use Rattle.ponds_queues.proofs.SonLaws.{part_none, son_row, offsets_fit, node_of_son, son_reach, turn_row, turn_room, turn_leaf, turn_fork, turn_marked, part_end, fewer, one_less}
use Prim.Native.Nat.{◌-◌}
use Rattle.ponds_queues.proofs.+stand_fork.Goals as goal

pub overflow_sub-half : goal.overflow_sub-half
overflow_sub-half t c =
    fork_above c.requires.reach.place c.requires.reach.fork

pub loop-q-init : goal.loop-q-init
loop-q-init t c =
    λ n F D h. part_none h

pub overflow_add-top : goal.overflow_add-top
overflow_add-top t c =
    omega (arith, (offsets_fit c.requires.reach (c.loop-q.q - 1) (fewer c.loop-q.auto.q c.loop-q-test.true)).1)

pub word_at-requires : goal.word_at-requires
word_at-requires t c =
    let r = c.requires.reach in
    (omega (arith, c.word_at-son.ensures, (son_at r.place r.fork (c.loop-q.q - 1) (fewer c.loop-q.auto.q c.loop-q-test.true)).node), omega arith)

pub stand_pixels-requires : goal.stand_pixels-requires
stand_pixels-requires t c =
    let r = c.requires.reach in
    let lt = fewer c.loop-q.auto.q c.loop-q-test.true in
    let el = one_less c.loop-q-test.true in
    let e = c.word_at-son.ensures in
    let f = told_fork c.args.table.now c.word_at-son.result _ c.word_at.ensures c.if-word_at-eq-FORK.true in
    record { n = _; F = _; D = _; reach = son_reach r (c.loop-q.invariant _ _ _ r) el lt e f c.if-half-eq1.true (son_row r lt e) }

pub loop-q-preserved-then-half-eq1 : goal.loop-q-preserved-then-half-eq1
loop-q-preserved-then-half-eq1 t c =
    let r = c.requires.reach in
    let lt = fewer c.loop-q.auto.q c.loop-q-test.true in
    let el = one_less c.loop-q-test.true in
    let e = c.word_at-son.ensures in
    let f = told_fork c.args.table.now c.word_at-son.result _ c.word_at.ensures c.if-word_at-eq-FORK.true in
    λ n F D r. turn_fork r (c.loop-q.invariant n F D r) el lt e f c.if-half-eq1.true (son_row r lt e) c.stand_pixels.ensures

pub offset_bounds-words-son : goal.offset_bounds-words-son
offset_bounds-words-son t c =
    let r = c.requires.reach in
    omega (arith, c.word_at-son.ensures, (son_at r.place r.fork (c.loop-q.q - 1) (fewer c.loop-q.auto.q c.loop-q-test.true)).node, r.place.accepted.sized.few)

pub bounds-words-son : goal.bounds-words-son
bounds-words-son t c =
    let r = c.requires.reach in
    let lt = fewer c.loop-q.auto.q c.loop-q-test.true in
    let el = one_less c.loop-q-test.true in
    let e = c.word_at-son.ensures in
    node_of_son r (c.loop-q.invariant _ _ _ r) el lt e

pub stand_fork-requires : goal.stand_fork-requires
stand_fork-requires t c =
    let r = c.requires.reach in
    let lt = fewer c.loop-q.auto.q c.loop-q-test.true in
    let el = one_less c.loop-q-test.true in
    let e = c.word_at-son.ensures in
    let f = told_fork c.args.table.now c.word_at-son.result _ c.word_at.ensures c.if-word_at-eq-FORK.true in
    (omega (arith, c.decreases, fork_above r.place r.fork), record { n = _; F = _; D = _; reach = son_reach r (c.loop-q.invariant _ _ _ r) el lt e f refl (son_row r lt e) })

pub loop-q-preserved-then-words-son-eq0 : goal.loop-q-preserved-then-words-son-eq0
loop-q-preserved-then-words-son-eq0 t c =
    let r = c.requires.reach in
    let lt = fewer c.loop-q.auto.q c.loop-q-test.true in
    let el = one_less c.loop-q-test.true in
    let e = c.word_at-son.ensures in
    let f = told_fork c.args.table.now c.word_at-son.result _ c.word_at.ensures c.if-word_at-eq-FORK.true in
    λ n F D r. turn_fork r (c.loop-q.invariant n F D r) el lt e f refl (son_row r lt e) c.stand_fork.ensures

pub loop-q-preserved-else-words-son-eq0 : goal.loop-q-preserved-else-words-son-eq0
loop-q-preserved-else-words-son-eq0 t c =
    let r = c.requires.reach in
    let lt = fewer c.loop-q.auto.q c.loop-q-test.true in
    let el = one_less c.loop-q-test.true in
    let e = c.word_at-son.ensures in
    let f = told_fork c.args.table.now c.word_at-son.result _ c.word_at.ensures c.if-word_at-eq-FORK.true in
    λ n F D r. turn_marked r (c.loop-q.invariant n F D r) el lt e f c.if-words-son-eq0.false

pub offset_bounds-rows-top : goal.offset_bounds-rows-top
offset_bounds-rows-top t c =
    let r = c.requires.reach in
    let lt = fewer c.loop-q.auto.q c.loop-q-test.true in
    let el = one_less c.loop-q-test.true in
    let e = c.word_at-son.ensures in
    let f = told_leaf c.args.table.now c.word_at-son.result _ c.word_at.ensures c.if-word_at-eq-FORK.false in
    omega (arith, turn_row r (c.loop-q.invariant _ _ _ r) el lt e f (son_row r lt e))

pub bounds-rows-top : goal.bounds-rows-top
bounds-rows-top t c =
    let r = c.requires.reach in
    let lt = fewer c.loop-q.auto.q c.loop-q-test.true in
    let el = one_less c.loop-q-test.true in
    let e = c.word_at-son.ensures in
    let f = told_leaf c.args.table.now c.word_at-son.result _ c.word_at.ensures c.if-word_at-eq-FORK.false in
    omega (arith, turn_row r (c.loop-q.invariant _ _ _ r) el lt e f (son_row r lt e))

pub offset_bounds-rows-top-else-word_at-eq-FORK : goal.offset_bounds-rows-top-else-word_at-eq-FORK
offset_bounds-rows-top-else-word_at-eq-FORK t c =
    let r = c.requires.reach in
    let lt = fewer c.loop-q.auto.q c.loop-q-test.true in
    let el = one_less c.loop-q-test.true in
    let e = c.word_at-son.ensures in
    let f = told_leaf c.args.table.now c.word_at-son.result _ c.word_at.ensures c.if-word_at-eq-FORK.false in
    omega (arith, turn_row r (c.loop-q.invariant _ _ _ r) el lt e f (son_row r lt e))

pub bounds-rows-top-else-word_at-eq-FORK : goal.bounds-rows-top-else-word_at-eq-FORK
bounds-rows-top-else-word_at-eq-FORK t c =
    let r = c.requires.reach in
    let lt = fewer c.loop-q.auto.q c.loop-q-test.true in
    let el = one_less c.loop-q-test.true in
    let e = c.word_at-son.ensures in
    let f = told_leaf c.args.table.now c.word_at-son.result _ c.word_at.ensures c.if-word_at-eq-FORK.false in
    omega (arith, turn_row r (c.loop-q.invariant _ _ _ r) el lt e f (son_row r lt e))

pub stand-requires : goal.stand-requires
stand-requires t c =
    let r = c.requires.reach in
    let lt = fewer c.loop-q.auto.q c.loop-q-test.true in
    let el = one_less c.loop-q-test.true in
    let e = c.word_at-son.ensures in
    let f = told_leaf c.args.table.now c.word_at-son.result _ c.word_at.ensures c.if-word_at-eq-FORK.false in
    turn_room r (c.loop-q.invariant _ _ _ r) el lt e f (son_row r lt e)

pub loop-q-preserved : goal.loop-q-preserved
loop-q-preserved t c =
    let r = c.requires.reach in
    let lt = fewer c.loop-q.auto.q c.loop-q-test.true in
    let el = one_less c.loop-q-test.true in
    let e = c.word_at-son.ensures in
    let f = told_leaf c.args.table.now c.word_at-son.result _ c.word_at.ensures c.if-word_at-eq-FORK.false in
    λ n F D r. turn_leaf r (c.loop-q.invariant n F D r) el lt e f (son_row r lt e) c.stand.ensures

pub returns : goal.returns
returns t c =
    λ n F D r. part_end r c.loop-q-test.false (c.loop-q.invariant n F D r)
