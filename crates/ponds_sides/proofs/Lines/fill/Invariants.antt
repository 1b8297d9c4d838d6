-- `Lines::fill`: column by column and row by row.
use mathlib.Core.List.{◌++◌}
use mathlib.Core.Path.{◌≡◌}
use lib.ListN.{length}
use Rattle.ponds_sets.specs.Lines.{across}
use Rattle.ponds_sets.specs.Walk.{LinesFilled}
use Rattle.ponds_sides.proofs.Lines.fill.Given as goal

abbrev pub invariant-loop-i : goal.invariant-loop-i
invariant-loop-i l =
    (length l.self-inside.columns ≡ across) × (length l.self-inside.rows ≡ across) × LinesFilled l.fn.self l.label l.x l.y l.i (l.self-inside.columns ++ l.self-inside.rows)
