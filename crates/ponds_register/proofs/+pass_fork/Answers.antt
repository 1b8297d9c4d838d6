use mathlib.Core.Path.{ap}
use native.Mathlib.Omega.{arith}
use Rattle.table.specs.declared.Block.{Block}
use Rattle.table.proofs.AcceptedLaws.{sons_of}
use Rattle.table.proofs.TypeLaws.{told_fork, told_leaf}
use Rattle.table.proofs.SonsLaws.{son_read, type_read}
use Rattle.ponds_pixels.proofs.UnderLaws.{gained_none, parted, son_entering, at_level, level_entered, number_there, entering_passing, leaf_entered, gained_more, gained_all}
use Rattle.ponds_register.proofs.+pass_fork.Goals as goal
use Rattle.ponds_register.proofs.+pass_fork.Goals.{then-kind-eq-FORK+then-its-eq1, then-kind-eq-FORK+else-its-eq1, else-kind-eq-FORK}

pub four_types-kinds-requires : goal.four_types-kinds-requires
four_types-kinds-requires t c = (c.requires.0.node, sons_of _ _ c.requires.0.told.accepted _ c.requires.0.node c.requires.1)

pub loop-q-init : goal.loop-q-init
loop-q-init t c = gained_none

pub part-its-requires : goal.part-its-requires
part-its-requires t c = (parted c.requires.0 c.requires.1, omega (arith, c.loop-q-test.true))

pub pass_pixels-requires : goal.pass_pixels-requires
pass_pixels-requires t c =
    let son = son_read _ _ _ c.four_sons-sons.ensures c.loop-q.q (omega (arith, c.loop-q-test.true)) in
    let type = type_read _ _ _ c.four_sons-sons.ensures _ c.four_types-kinds.ensures c.loop-q.q (omega (arith, c.loop-q-test.true)) in (
      at_level c.if-its-eq1.true (son_entering c.requires.1 c.loop-q.q _ _ _ (omega (arith, c.loop-q-test.true)) son c.part-its.ensures c.loop-q.invariant c.requires.0),
      told_fork c.args.table.now _ _ type c.if-kind-eq-FORK.true,
    )

pub pass_fork-requires : goal.pass_fork-requires
pass_fork-requires t c =
    let son = son_read _ _ _ c.four_sons-sons.ensures c.loop-q.q (omega (arith, c.loop-q-test.true)) in
    let type = type_read _ _ _ c.four_sons-sons.ensures _ c.four_types-kinds.ensures c.loop-q.q (omega (arith, c.loop-q-test.true)) in (
      omega (arith, c.decreases, ap (λ (b : Block). b.level) c.part-its.ensures, (parted c.requires.0 c.requires.1).level),
      (son_entering c.requires.1 c.loop-q.q _ _ _ (omega (arith, c.loop-q-test.true)) son c.part-its.ensures c.loop-q.invariant c.requires.0, told_fork c.args.table.now _ _ type c.if-kind-eq-FORK.true),
    )

pub pass-requires : goal.pass-requires
pass-requires t c =
    let son = son_read _ _ _ c.four_sons-sons.ensures c.loop-q.q (omega (arith, c.loop-q-test.true)) in
    let e = son_entering c.requires.1 c.loop-q.q _ _ _ (omega (arith, c.loop-q-test.true)) son c.part-its.ensures c.loop-q.invariant c.requires.0 in
    (number_there e, entering_passing e)

pub loop-q-preserved : goal.loop-q-preserved
loop-q-preserved t c =
    let son = son_read _ _ _ c.four_sons-sons.ensures c.loop-q.q (omega (arith, c.loop-q-test.true)) in
    let type = type_read _ _ _ c.four_sons-sons.ensures _ c.four_types-kinds.ensures c.loop-q.q (omega (arith, c.loop-q-test.true)) in
    elim c.if-kind-eq-FORK.branch [
      | then-kind-eq-FORK+then-its-eq1 w ↦
          rw w.reg-is
          (gained_more c.requires.1 c.loop-q.q _ _ _ (omega (arith, c.loop-q-test.true)) son c.part-its.ensures c.loop-q.invariant _ (level_entered w.if-its-eq1.true w.pass_pixels.ensures))
      | then-kind-eq-FORK+else-its-eq1 w ↦
          rw w.reg-is (gained_more c.requires.1 c.loop-q.q _ _ _ (omega (arith, c.loop-q-test.true)) son c.part-its.ensures c.loop-q.invariant _ w.pass_fork.ensures)
      | else-kind-eq-FORK w ↦
          let leaf = told_leaf c.args.table.now _ _ type w.if-kind-eq-FORK.false in
          rw w.reg-is
          (gained_more c.requires.1 c.loop-q.q _ _ _ (omega (arith, c.loop-q-test.true)) son c.part-its.ensures c.loop-q.invariant _ (λ e. leaf_entered e _ leaf w.pass.ensures))
    ]

pub returns : goal.returns
returns t c = gained_all c.requires.1 c.loop-q.q _ c.loop-q.auto.q-end c.loop-q-test.false c.loop-q.invariant
