use mathlib.Core.Path.{refl}
use Prim.Native.Nat.{◌-◌}
use native.Mathlib.Omega.{arith}
use Rattle.raster_notes.specs.Notes.{slots_of}
use Rattle.raster_notes.proofs.NoteLaws.{slots_fit, slots_next}
use Rattle.raster_large.proofs.slots.Goals as goal

pub loop-level-init : goal.loop-level-init
loop-level-init c = (omega arith, unfold slots_of in refl)

pub overflow_mul-slots : goal.overflow_mul-slots
overflow_mul-slots c = omega (arith, slots_fit (c.loop-level._level - 3) (omega arith))

pub overflow_add-slots : goal.overflow_add-slots
overflow_add-slots c = omega (arith, slots_fit (c.loop-level._level - 3) (omega arith))

pub loop-level-preserved : goal.loop-level-preserved
loop-level-preserved c = (omega arith, slots_next _ _ (omega arith) c.loop-level.invariant.1)
