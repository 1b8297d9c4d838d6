-- `Lines::fill_last`: two writes to either line.
use Rattle.ponds_sides.proofs.LinesLaws.{written_both}
use Rattle.ponds_sides.proofs.Lines.fill_last.Goals as goal

pub returns : goal.returns
returns c = rw (← c.self.view_is) (written_both _ _ _ _ _ _ _ c.self.told.0 c.requires.0)
