-- `raster_large::block`: by its level.
use Prim.Native.Nat.{◌-◌}
use native.Mathlib.Omega.{arith}
use Rattle.raster_notes.proofs.NoteLaws.{slots_some, four_slots, block_noted}
use Rattle.raster_large.proofs.block.Goals as goal

pub eight-requires : goal.eight-requires
eight-requires c = (omega (arith, (rw c.in-3.is at c.requires.0).ends), c.eight_rows.ensures.0, omega (arith, c.requires.3, c.requires.4, slots_some (c.args.level - 3)))

pub returns-in-3 : goal.returns-in-3
returns-in-3 c =
    rw c.in-3.is (block_noted _ _ _ _ _ _ _ (omega (arith, c.requires.3, c.requires.4, c.told-kinds, slots_some (c.args.level - 3))) c.eight.ensures.0 c.eight.ensures.1)

pub sixteen-requires : goal.sixteen-requires
sixteen-requires c = (rw c.in-4.is at c.requires.0, four_slots _ _ _ c.in-4.is c.requires.3 c.requires.4)
