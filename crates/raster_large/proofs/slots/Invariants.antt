-- `raster_large::slots`: level by level.
use mathlib.Core.Path.{◌≡◌}
use Prim.Native.Nat.{◌-◌, ◌≤◌}
use Rattle.raster_notes.specs.Notes.{slots_of}
use Rattle.raster_large.proofs.slots.Given as goal

abbrev pub invariant-loop-level : goal.invariant-loop-level
invariant-loop-level l = (l._level - 3 ≤ l.n - 3) × (l.slots ≡ slots_of (l._level - 3))
