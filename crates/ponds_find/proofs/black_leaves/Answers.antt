use native.Mathlib.Omega.{arith}
use Rattle.ponds_find.proofs.BlackLaws.{black_none, black_more, black_one, black_all}
use Rattle.ponds_find.proofs.black_leaves.Goals as goal

pub loop-p-init : goal.loop-p-init
loop-p-init c = (omega arith, black_none c.args.table.now)

pub loop-p-preserved : goal.loop-p-preserved
loop-p-preserved c =
    let T = c.args.table.now in
    let p = c.loop-p.p in
    (omega (arith, black_one T p _ c.one_if_black-count.ensures, c.loop-p.invariant.0), black_more T p _ _ c.loop-p.invariant.1 c.one_if_black-count.ensures)

pub returns : goal.returns
returns c = black_all _ _ _ _ c.node_count-p-end.ensures c.loop-p-test.false (omega (arith, c.loop-p.auto.p-end, c.node_count-p-end.ensures)) c.loop-p.invariant.1
