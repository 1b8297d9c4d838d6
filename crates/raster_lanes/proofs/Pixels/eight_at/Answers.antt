use Prim.Native.Nat.{◌+◌}
use native.Mathlib.Nat.{add_assoc}
use native.Mathlib.Omega.{arith}
use Rattle.raster_lanes.specs.Lanes.{two_from, four_from, eight_from}
use Rattle.raster_lanes.proofs.Pixels.eight_at.Goals as goal

pub returns : goal.returns
unfolding eight_from four_from two_from
returns c =
    let few = c.args.self.now.colours in
    let at = c.args.at in
    (simp add_assoc (omega (arith, c.from_le_bytes.ensures)), omega (arith, c.from_le_bytes.ensures, few at, few (at + 1), few (at + 2), few (at + 3), few (at + 4), few (at + 5), few (at + 6), few (at + 7)))
