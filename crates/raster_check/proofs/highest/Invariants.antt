-- `raster_check::highest`: no byte before place i of any part is above.
use Prim.Native.Nat.{ℕ, ◌<◌}
use Rattle.raster.proofs.TestLaws.{Below}
use Rattle.raster_check.proofs.highest.Given as goal

abbrev pub invariant-loop-i : goal.invariant-loop-i
invariant-loop-i l = (j : ℕ) → j < l.i → Below l.raster l.part l.most j
