-- `raster_count::Raster::count`: by its level.
use Prim.Native.Nat.{◌-◌}
use native.Mathlib.Omega.{arith}
use Rattle.raster_notes.proofs.NoteLaws.{slots_fit}
use Rattle.raster_count.proofs.NotedLaws.{sheet_lies}
use Rattle.raster_count.proofs.Raster.count.Goals as goal

pub block-requires : goal.block-requires
block-requires c =
    (rw c.args.self.now.wide (sheet_lies _ _ c.args.self.now.picture), omega (arith, c.if-self-lt3.false), c.args.self.now.picture.top, c.slots.ensures, omega (arith, c.slots.ensures, slots_fit (c.args.self.now.n - 3) (omega (arith, c.args.self.now.picture.top))))
