-- `raster_notes::quarters`: one after the other.
use Prim.Native.Nat.{◌+◌, ◌*◌}
use native.Mathlib.Omega.{arith}
use Rattle.raster_lanes.specs.Lanes.{window}
use Rattle.raster_notes.proofs.TellLaws.{block_few}
use Rattle.raster_notes.proofs.NoteLaws.{four_parts}
use Rattle.raster_notes.proofs.quarters.Goals as goal

pub overflow_add-result : goal.overflow_add-result
overflow_add-result c =
    omega (arith, block_few (window c.args.pixels.now.bytes.now c.args.pixels.now.across c.args.at) 0 0, c.eight-a.ensures.0, block_few (window c.args.pixels.now.bytes.now c.args.pixels.now.across (c.args.at + 8)) 0 0, c.eight-b.ensures.0, block_few (window c.args.pixels.now.bytes.now c.args.pixels.now.across (c.args.at + 8 * c.args.pixels.now.across)) 0 0, c.eight-c.ensures.0, block_few (window c.args.pixels.now.bytes.now c.args.pixels.now.across (c.args.at + 8 * c.args.pixels.now.across + 8)) 0 0, c.eight-d.ensures.0)

pub overflow_add-result-2 : goal.overflow_add-result-2
overflow_add-result-2 c =
    omega (arith, block_few (window c.args.pixels.now.bytes.now c.args.pixels.now.across c.args.at) 0 0, c.eight-a.ensures.0, block_few (window c.args.pixels.now.bytes.now c.args.pixels.now.across (c.args.at + 8)) 0 0, c.eight-b.ensures.0, block_few (window c.args.pixels.now.bytes.now c.args.pixels.now.across (c.args.at + 8 * c.args.pixels.now.across)) 0 0, c.eight-c.ensures.0, block_few (window c.args.pixels.now.bytes.now c.args.pixels.now.across (c.args.at + 8 * c.args.pixels.now.across + 8)) 0 0, c.eight-d.ensures.0)

pub overflow_add-result-3 : goal.overflow_add-result-3
overflow_add-result-3 c =
    omega (arith, block_few (window c.args.pixels.now.bytes.now c.args.pixels.now.across c.args.at) 0 0, c.eight-a.ensures.0, block_few (window c.args.pixels.now.bytes.now c.args.pixels.now.across (c.args.at + 8)) 0 0, c.eight-b.ensures.0, block_few (window c.args.pixels.now.bytes.now c.args.pixels.now.across (c.args.at + 8 * c.args.pixels.now.across)) 0 0, c.eight-c.ensures.0, block_few (window c.args.pixels.now.bytes.now c.args.pixels.now.across (c.args.at + 8 * c.args.pixels.now.across + 8)) 0 0, c.eight-d.ensures.0)

pub overflow_add-result-4 : goal.overflow_add-result-4
overflow_add-result-4 c =
    omega (arith, block_few (window c.args.pixels.now.bytes.now c.args.pixels.now.across c.args.at) 0 0, c.eight-a.ensures.0, block_few (window c.args.pixels.now.bytes.now c.args.pixels.now.across (c.args.at + 8)) 0 0, c.eight-b.ensures.0, block_few (window c.args.pixels.now.bytes.now c.args.pixels.now.across (c.args.at + 8 * c.args.pixels.now.across)) 0 0, c.eight-c.ensures.0, block_few (window c.args.pixels.now.bytes.now c.args.pixels.now.across (c.args.at + 8 * c.args.pixels.now.across + 8)) 0 0, c.eight-d.ensures.0)

pub returns : goal.returns
returns c =
    four_parts _ _ _ _ _ _ _ _ _ _ _ _ _ c.told-kinds c.requires.1 c.eight-a.ensures.0 c.eight-a.ensures.1 c.eight-b.ensures.0 c.eight-b.ensures.1 c.eight-c.ensures.0 c.eight-c.ensures.1 c.eight-d.ensures.0 c.eight-d.ensures.1
