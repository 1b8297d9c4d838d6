use mathlib.Core.Path.{refl}
use native.Mathlib.Omega.{arith}
use Rattle.table.proofs.AcceptedLaws.{fork_above, sons_of}
use Rattle.table.proofs.TypeLaws.{told_fork}
use Rattle.table.proofs.SonsLaws.{son_read, type_read}
use Rattle.ponds_leaf.proofs.ForkLaws.{firsts_none, offsets_few, son_coming, son_pixels, son_leaf, firsts_fork, firsts_pixels, firsts_leaf, firsts_all, all_within, four_of_lem, two_power}
use Rattle.ponds_labels.proofs.+fork.Goals as goal
use Rattle.ponds_labels.proofs.+fork.Goals.{then-kind-eq-FORK+then-half-eq1, then-kind-eq-FORK+else-half-eq1, else-kind-eq-FORK+then-half-eq1-2, else-kind-eq-FORK+else-half-eq1-2}

pub overflow_sub-half : goal.overflow_sub-half
overflow_sub-half t c = fork_above c.requires.0.at c.requires.1

pub four_types-kinds-requires : goal.four_types-kinds-requires
four_types-kinds-requires t c = (c.requires.0.at.node, sons_of _ _ c.requires.0.at.accepted _ c.requires.0.at.node c.requires.1)

pub loop-q-init : goal.loop-q-init
loop-q-init t c = firsts_none _ _ _ _ _ _ _ c.requires.1 _ _ c.side-side.ensures refl

pub overflow_add-sx : goal.overflow_add-sx
overflow_add-sx t c = let b = offsets_few c.requires.0 c.requires.1 refl c.side-side.ensures c.loop-q.q c.loop-q-test.true in omega (arith, b.0, b.2)

pub overflow_add-sy : goal.overflow_add-sy
overflow_add-sy t c = let b = offsets_few c.requires.0 c.requires.1 refl c.side-side.ensures c.loop-q.q c.loop-q-test.true in omega (arith, b.1, b.3)

pub pixels-requires : goal.pixels-requires
pixels-requires t c = (
  son_pixels _ _ _ _ _ _ _ c.requires.1 _ _ c.side-side.ensures refl c.loop-q.q c.loop-q-test.true _ _ _ c.loop-q.invariant _ _ _ (son_read _ _ _ c.four_sons-sons.ensures c.loop-q.q c.loop-q-test.true) refl refl c.if-half-eq1.true c.requires.0,
  told_fork c.args.table.now _ _ (type_read _ _ _ c.four_sons-sons.ensures _ c.four_types-kinds.ensures c.loop-q.q c.loop-q-test.true) c.if-kind-eq-FORK.true,
)

pub fork-requires : goal.fork-requires
fork-requires t c = (
  omega (arith, c.decreases, fork_above c.requires.0.at c.requires.1),
  (son_coming _ _ _ _ _ _ _ c.requires.1 _ _ c.side-side.ensures refl c.loop-q.q c.loop-q-test.true _ _ _ c.loop-q.invariant _ _ _ (son_read _ _ _ c.four_sons-sons.ensures c.loop-q.q c.loop-q-test.true) refl refl c.requires.0, told_fork c.args.table.now _ _ (type_read _ _ _ c.four_sons-sons.ensures _ c.four_types-kinds.ensures c.loop-q.q c.loop-q-test.true) c.if-kind-eq-FORK.true),
)

pub leaf-requires : goal.leaf-requires
leaf-requires t c = son_leaf _ _ _ _ _ _ _ c.requires.1 _ _ c.side-side.ensures refl c.loop-q.q c.loop-q-test.true _ _ _ c.loop-q.invariant _ _ _ (son_read _ _ _ c.four_sons-sons.ensures c.loop-q.q c.loop-q-test.true) refl refl _ _ (type_read _ _ _ c.four_sons-sons.ensures _ c.four_types-kinds.ensures c.loop-q.q c.loop-q-test.true) c.if-kind-eq-FORK.false (two_power _ c.if-half-eq1-2.true) c.requires.0

pub leaf-requires-else-half-eq1-2 : goal.leaf-requires-else-half-eq1-2
leaf-requires-else-half-eq1-2 t c = son_leaf _ _ _ _ _ _ _ c.requires.1 _ _ c.side-side.ensures refl c.loop-q.q c.loop-q-test.true _ _ _ c.loop-q.invariant _ _ _ (son_read _ _ _ c.four_sons-sons.ensures c.loop-q.q c.loop-q-test.true) refl refl _ _ (type_read _ _ _ c.four_sons-sons.ensures _ c.four_types-kinds.ensures c.loop-q.q c.loop-q-test.true) c.if-kind-eq-FORK.false c.side-side.ensures c.requires.0

pub loop-q-preserved : goal.loop-q-preserved
loop-q-preserved t c =
    elim c.if-kind-eq-FORK.branch [
      | then-kind-eq-FORK+then-half-eq1 w ↦
          rw (w.words-is, w.lines-is) (firsts_pixels _ _ _ _ _ _ _ c.requires.1 _ _ c.side-side.ensures refl c.loop-q.q c.loop-q-test.true _ _ _ c.loop-q.invariant _ _ _ (son_read _ _ _ c.four_sons-sons.ensures c.loop-q.q c.loop-q-test.true) refl refl _ _ _ w.if-half-eq1.true w.pixels.ensures _ (rw (← w.led-is) c.first_nonzero-leaders.ensures))
      | then-kind-eq-FORK+else-half-eq1 w ↦
          rw (w.words-is, w.lines-is) (firsts_fork _ _ _ _ _ _ _ c.requires.1 _ _ c.side-side.ensures refl c.loop-q.q c.loop-q-test.true _ _ _ c.loop-q.invariant _ _ _ (son_read _ _ _ c.four_sons-sons.ensures c.loop-q.q c.loop-q-test.true) refl refl _ _ _ w.fork.ensures _ (rw (← w.led-is) c.first_nonzero-leaders.ensures))
      | else-kind-eq-FORK+then-half-eq1-2 w ↦
          rw (w.words-is, w.lines-is)
          (firsts_leaf _ _ _ _ _ _ _ c.requires.1 _ _ c.side-side.ensures refl c.loop-q.q c.loop-q-test.true _ _ _ c.loop-q.invariant _ _ _ (son_read _ _ _ c.four_sons-sons.ensures c.loop-q.q c.loop-q-test.true) refl refl _ _ (type_read _ _ _ c.four_sons-sons.ensures _ c.four_types-kinds.ensures c.loop-q.q c.loop-q-test.true) w.if-kind-eq-FORK.false (two_power _ w.if-half-eq1-2.true) _ _ _ w.leaf.ensures _ (rw (← w.led-is) c.first_nonzero-leaders.ensures))
      | else-kind-eq-FORK+else-half-eq1-2 w ↦
          rw (w.words-is, w.lines-is)
          (firsts_leaf _ _ _ _ _ _ _ c.requires.1 _ _ c.side-side.ensures refl c.loop-q.q c.loop-q-test.true _ _ _ c.loop-q.invariant _ _ _ (son_read _ _ _ c.four_sons-sons.ensures c.loop-q.q c.loop-q-test.true) refl refl _ _ (type_read _ _ _ c.four_sons-sons.ensures _ c.four_types-kinds.ensures c.loop-q.q c.loop-q-test.true) w.if-kind-eq-FORK.false c.side-side.ensures _ _ _ w.leaf-else-half-eq1-2.ensures _ (rw (← w.led-is) c.first_nonzero-leaders.ensures))
    ]

pub bounds-words-p : goal.bounds-words-p
bounds-words-p t c = all_within _ _ _ _ _ _ _ c.requires.1 _ _ c.side-side.ensures refl _ _ _ (four_of_lem c.loop-q.auto.q-end c.loop-q-test.false c.loop-q.invariant) c.requires.0

pub returns : goal.returns
returns t c = firsts_all _ _ _ _ _ _ _ c.requires.1 _ _ c.side-side.ensures refl _ _ _ _ (four_of_lem c.loop-q.auto.q-end c.loop-q-test.false c.loop-q.invariant) c.mark.ensures
