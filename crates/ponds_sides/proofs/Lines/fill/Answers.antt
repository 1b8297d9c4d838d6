use mathlib.Core.Path.{◌∙◌}
use native.Mathlib.Omega.{arith}
use lib.ListN.{length-set}
use Rattle.ponds_sides.proofs.LinesLaws.{filled_both, both_long}
use Rattle.ponds_sides.proofs.Lines.fill.Goals as goal

pub loop-i-preserved : goal.loop-i-preserved
loop-i-preserved c =
    let v = c.loop-i.invariant in
    let L = both_long _ _ _ c.self.told.0 c.self.told.1 c.self.view_is in (
      length-set _ _ _ ∙ v.0,
      length-set _ _ _ ∙ v.1,
      filled_both _ _ _ _ _ _ _ v.0 L (omega (arith, c.requires.0, c.loop-i-test.true)) (omega (arith, c.requires.1, c.loop-i-test.true)) v.2,
    )
