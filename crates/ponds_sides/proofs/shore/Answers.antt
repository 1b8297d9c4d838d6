use Rattle.ponds_sets.proofs.ShoreLaws.{shore_start, shore_room, side_some, north_facing, west_facing, shore_more, shore_all}
use Rattle.ponds_sides.proofs.shore.Goals as goal

pub loop-i-init : goal.loop-i-init
loop-i-init c = (shore_start, side_some c.requires, (shore_room c.requires).0, (shore_room c.requires).1)

pub next-requires : goal.next-requires
next-requires c = north_facing _ _ c.loop-i.auto.i c.loop-i-test.true c.loop-i.invariant.0 _ c.north.ensures c.requires

pub next-requires-in-loop-i : goal.next-requires-in-loop-i
next-requires-in-loop-i c =
    west_facing _ _ c.loop-i.auto.i c.loop-i-test.true c.loop-i.invariant.0 _ c.north.ensures _ c.north-in-loop-i.ensures _ c.next.ensures _ c.west.ensures c.requires

pub loop-i-preserved : goal.loop-i-preserved
loop-i-preserved c = (
  shore_more _ _ c.loop-i.auto.i c.loop-i-test.true c.loop-i.invariant.0 _ c.north.ensures _ c.north-in-loop-i.ensures _ c.next.ensures _ c.west.ensures _ c.west-in-loop-i.ensures _ c.next-in-loop-i.ensures,
  c.loop-i.invariant.1,
  c.loop-i.invariant.2,
  c.loop-i.invariant.3,
)

pub returns : goal.returns
returns c = shore_all c.loop-i.invariant.0 (c.loop-i.auto.i-end c.loop-i.invariant.1) c.loop-i-test.false
