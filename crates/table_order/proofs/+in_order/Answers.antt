use native.Mathlib.Omega.{arith}
use mathlib.Core.Path.{sym}
use Rattle.table.proofs.TypeLaws.{told_fork}
use Rattle.table_order.specs.Order.{ForkOf}
use Rattle.table_order.proofs.OrderLaws.{passing_none, again_fork, again_leaf, pixels_passed, passed_named, passed_told}
use Rattle.table_order.proofs.+in_order.Goals.{then-word_at-eq-FORK+else-word_at-fork+else-count-q, then-level-eq2+else-not-pixels, else-level-eq2+in-Some, else-word_at-eq-FORK+then-is_leaf_of}
use Rattle.table_order.proofs.+in_order.Goals as goal

pub loop-q-init : goal.loop-q-init
loop-q-init t c = passing_none _ _ _ (omega (arith, c.requires.0.all))

pub loop-q-preserved : goal.loop-q-preserved
loop-q-preserved t c =
    let i = c.loop-q.invariant in
    let f = c.requires.0 in
    elim c.if-word_at-eq-FORK.branch [
      | then-word_at-eq-FORK+else-word_at-fork+else-count-q w ↦ elim w.if-level-eq2.branch [
        | then-level-eq2+else-not-pixels w' ↦
            let here : ForkOf c.args.table.now c.args.count c.loop-q.next = record { node = omega (arith, i.room); fork = told_fork c.args.table.now c.loop-q.next _ c.word_at-in-loop-q.ensures w.if-word_at-eq-FORK.true; all = f.all; few = f.few } in
            let pixels = pixels_passed _ _ _ here (sym w'.if-not-pixels.ensures) in
            again_fork _ _ _ _ _ _ _ i (omega arith) f c.word_at.ensures c.if-word_at-son.false _ _ w.word_at-then-word_at-eq-FORK.ensures (omega arith)
            (rw (w.next-is, w'.next-is, w'.if-level-eq2.true) pixels) (omega arith)
        | else-level-eq2+in-Some w' ↦
            again_fork _ _ _ _ _ _ _ i (omega arith) f c.word_at.ensures c.if-word_at-son.false _ _ w.word_at-then-word_at-eq-FORK.ensures (omega arith)
            (rw (w.next-is, w'.next-is) (rw w'.in-Some.is at w'.in_order.ensures)) (omega arith)
      ]
      | else-word_at-eq-FORK+then-is_leaf_of w ↦
          rw w.next-is (again_leaf _ _ _ _ _ _ _ i (omega arith) f c.word_at.ensures c.if-word_at-son.false (sym w.if-is_leaf_of.ensures))
    ]

pub needless-requires : goal.needless-requires
needless-requires t c = passed_named _ _ _ _ _ _ c.loop-q.invariant (omega arith) c.requires.0

pub returns : goal.returns
returns t c = passed_told _ _ _ _ _ _ c.loop-q.invariant (omega arith) c.requires.0 _ (omega (arith, c.requires.1)) c.needless.ensures c.if-needless.false
