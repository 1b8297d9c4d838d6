-- `ponds_sides::shore`: pixel by pixel along both sides, which lie on the sheet.
use Prim.Native.Nat.{◌+◌, ◌≤◌}
use Rattle.ponds_sets.specs.Lines.{across}
use Rattle.ponds_sets.specs.Walk.{Shores}
use Rattle.ponds_sides.proofs.shore.Given as goal

abbrev pub invariant-loop-i : goal.invariant-loop-i
invariant-loop-i l = Shores l.initial.words l.lines l.label l.x l.y l.side l.i l.words × (1 ≤ l.side) × (l.x + l.side ≤ across) × (l.y + l.side ≤ across)
