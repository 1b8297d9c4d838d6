use Prim.Native.Nat.{◌+◌}
use native.Mathlib.Nat.{add_assoc}
use native.Mathlib.Omega.{arith}
use Rattle.raster_lanes.specs.Lanes.{two_from, four_from}
use Rattle.raster_lanes.proofs.Pixels.four_at.Goals as goal

pub returns : goal.returns
unfolding four_from two_from
returns c =
    let few = c.args.self.now.colours in
    let at = c.args.at in
    (simp add_assoc (omega (arith, c.from_le_bytes.ensures, c.from.ensures)), omega (arith, c.from_le_bytes.ensures, c.from.ensures, few at, few (at + 1), few (at + 2), few (at + 3)))
