use Rattle.ponds_entry.proofs.WordLaws.{cleared_none, cleared_more, cleared_all}
use Rattle.ponds_register.proofs.clear.Goals as goal

pub loop-i-init : goal.loop-i-init
loop-i-init c = (c.requires, cleared_none c.args.reg.now)

pub loop-i-preserved : goal.loop-i-preserved
loop-i-preserved c = (c.requires, cleared_more _ c.loop-i.i c.args.count _ _ _ c.loop-i-test.true c.requires c.loop-i.invariant.1 c.empty.ensures c.put_entry.ensures)

pub returns : goal.returns
returns c = cleared_all _ c.loop-i.i c.args.count _ c.loop-i.auto.i-end c.loop-i-test.false c.loop-i.invariant.1
