-- `Lines::quiet`: each side is a part of one line.
use native.Mathlib.Omega.{arith}
use Rattle.ponds_sides.proofs.LinesLaws.{part_few, both_quiet}
use Rattle.ponds_sides.proofs.Lines.quiet.Goals as goal

pub overflow_add-result : goal.overflow_add-result
overflow_add-result c = omega (arith, part_few _ _ _ _ _ c.self.told.0 c.requires.0 c.others.ensures, part_few _ _ _ _ _ c.self.told.1 c.requires.1 c.others-2.ensures)

pub returns : goal.returns
returns c = rw (← c.self.view_is) (both_quiet _ _ _ _ _ _ _ _ c.self.told.0 c.self.told.1 c.requires.0 c.requires.1 c.others.ensures c.others-2.ensures)
