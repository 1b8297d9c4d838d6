use Prim.Native.Nat.{◌/◌}
use native.Mathlib.Omega.{arith}
use lib.ListN.{length}
use Rattle.raster.proofs.TestLaws.{none_above_all}
use Rattle.raster_check.proofs.highest.Goals as goal

pub returns : goal.returns
returns c =
    none_above_all c.args.raster.now (length c.args.raster.now / 4) c.loop-i.most (omega (arith, c.requires)) (λ j lt. c.loop-i.invariant j (omega arith))
