use mathlib.Core.Path.{sym, ◌∙◌}
use native.Mathlib.Omega.{arith}
use borrow.Author.Tests.{eq-eqb}
use Rattle.quad.specs.Direction.{east_step, south_step}
use Rattle.table.proofs.AcceptedLaws.{level_top, fork_above}
use Rattle.distance_seek.proofs.SearchLaws.{near_lt, next_lt, at_white, at_black, halves}
use Rattle.distance_seek.proofs.TurnLaws.{edge_room, look_asks, stop_1, stop_2, stop_3, all_four}
use Rattle.distance_seek.proofs.+look_seek.Goals as goal

pub look-word_at-kind-requires : goal.look-word_at-kind-requires
look-word_at-kind-requires t c = (c.requires.0.place.node, omega arith)

pub look-returns-then-kind-eq0 : goal.look-returns-then-kind-eq0
look-returns-then-kind-eq0 t c = let o = c in at_white _ _ _ _ _ _ _ c.word_at-kind.ensures o.requires.2 c.if-kind-eq0.true

pub look-returns-then-kind-ne-FORK : goal.look-returns-then-kind-ne-FORK
look-returns-then-kind-ne-FORK t c = let o = c in at_black _ _ _ _ _ _ _ c.word_at-kind.ensures (omega (arith, o.ranges.best)) c.if-kind-eq0.false c.if-kind-ne-FORK.true

pub look-seek-requires : goal.look-seek-requires
look-seek-requires t c = let o = c in (omega arith, (o.requires.0, eq-eqb _ _ (sym c.word_at-kind.ensures ∙ c.if-kind-ne-FORK.false), o.requires.1, o.requires.2))

pub look-returns : goal.look-returns
look-returns t c = c.seek.ensures

pub seek-overflow_sub-m : goal.seek-overflow_sub-m
seek-overflow_sub-m t c = fork_above c.requires.0.place c.requires.1

pub seek-side-requires : goal.seek-side-requires
seek-side-requires t c = omega (arith, level_top c.requires.0.place)

pub seek-overflow_add-far : goal.seek-overflow_add-far
seek-overflow_add-far t c = let o = c in omega (arith, c.side.ensures, halves o.requires.0 o.requires.1, o.requires.0.room)

pub seek-near_quarter-near-requires : goal.seek-near_quarter-near-requires
seek-near_quarter-near-requires t c = let o = c in o.requires.2

pub seek-overflow_add-near : goal.seek-overflow_add-near
seek-overflow_add-near t c = let o = c in omega (arith, near_lt (east_step o.args.direction) (south_step o.args.direction) c.near_quarter-near.ensures)

pub seek-word_at-first-requires : goal.seek-word_at-first-requires
seek-word_at-first-requires t c = let o = c in (o.requires.0.place.node, omega (arith, near_lt (east_step o.args.direction) (south_step o.args.direction) c.near_quarter-near.ensures))

pub seek-look-best1-requires : goal.seek-look-best1-requires
seek-look-best1-requires t c = let o = c in look_asks o.requires.0 o.requires.1 t o.decreases (near_lt (east_step o.args.direction) (south_step o.args.direction) c.near_quarter-near.ensures) c.word_at-first.ensures o.requires.2 c.side.ensures (omega arith) o.requires.3

pub seek-returns-then-best1-edge : goal.seek-returns-then-best1-edge
seek-returns-then-best1-edge t c = let o = c in stop_1 o.requires.0 o.requires.1 _ o.requires.2 _ _ (omega (arith, o.ranges.best)) c.side.ensures c.near_quarter-near.ensures c.word_at-first.ensures c.look-best1.ensures c.next_edge-edge.ensures c.if-best1-edge.true

pub seek-next_quarter-next-requires : goal.seek-next_quarter-next-requires
seek-next_quarter-next-requires t c = let o = c in o.requires.2

pub seek-overflow_add-next : goal.seek-overflow_add-next
seek-overflow_add-next t c = let o = c in omega (arith, next_lt (east_step o.args.direction) (south_step o.args.direction) c.next_quarter-next.ensures)

pub seek-word_at-second-requires : goal.seek-word_at-second-requires
seek-word_at-second-requires t c = let o = c in (o.requires.0.place.node, omega (arith, next_lt (east_step o.args.direction) (south_step o.args.direction) c.next_quarter-next.ensures))

pub seek-next_way-requires : goal.seek-next_way-requires
seek-next_way-requires t c = let o = c in o.requires.2

pub seek-look-best2-requires : goal.seek-look-best2-requires
seek-look-best2-requires t c = let o = c in look_asks o.requires.0 o.requires.1 t o.decreases (next_lt (east_step o.args.direction) (south_step o.args.direction) c.next_quarter-next.ensures) c.word_at-second.ensures c.next_way.ensures.below c.side.ensures (edge_room o.args.direction _ _ _ c.next_edge-edge.ensures) (omega (arith, c.if-best1-edge.false))

pub seek-returns-then-best2-far : goal.seek-returns-then-best2-far
seek-returns-then-best2-far t c = let o = c in stop_2 o.requires.0 o.requires.1 _ o.requires.2 _ _ (omega (arith, o.ranges.best)) c.side.ensures c.near_quarter-near.ensures c.word_at-first.ensures c.look-best1.ensures c.next_edge-edge.ensures _ c.next_quarter-next.ensures c.next_way.ensures c.word_at-second.ensures c.look-best2.ensures c.if-best2-far.true

pub seek-overflow_sub-next : goal.seek-overflow_sub-next
seek-overflow_sub-next t c = let o = c in omega (arith, next_lt (east_step o.args.direction) (south_step o.args.direction) c.next_quarter-next.ensures)

pub seek-overflow_add-next-2 : goal.seek-overflow_add-next-2
seek-overflow_add-next-2 t c = let o = c in omega (arith, next_lt (east_step o.args.direction) (south_step o.args.direction) c.next_quarter-next.ensures)

pub seek-word_at-third-requires : goal.seek-word_at-third-requires
seek-word_at-third-requires t c = let o = c in (o.requires.0.place.node, omega (arith, next_lt (east_step o.args.direction) (south_step o.args.direction) c.next_quarter-next.ensures))

pub seek-other_way-requires : goal.seek-other_way-requires
seek-other_way-requires t c = let o = c in o.requires.2

pub seek-look-best3-requires : goal.seek-look-best3-requires
seek-look-best3-requires t c = let o = c in look_asks o.requires.0 o.requires.1 t o.decreases (omega (arith, next_lt (east_step o.args.direction) (south_step o.args.direction) c.next_quarter-next.ensures)) c.word_at-third.ensures c.other_way.ensures.below c.side.ensures (omega arith) (omega (arith, c.if-best2-far.false))

pub seek-returns-then-best3-far : goal.seek-returns-then-best3-far
seek-returns-then-best3-far t c = let o = c in stop_3 o.requires.0 o.requires.1 _ o.requires.2 _ _ (omega (arith, o.ranges.best)) c.side.ensures c.near_quarter-near.ensures c.word_at-first.ensures c.look-best1.ensures c.next_edge-edge.ensures _ c.next_quarter-next.ensures c.next_way.ensures c.word_at-second.ensures c.look-best2.ensures _ c.other_way.ensures c.word_at-third.ensures c.look-best3.ensures c.if-best3-far.true

pub seek-overflow_sub-near : goal.seek-overflow_sub-near
seek-overflow_sub-near t c = let o = c in omega (arith, near_lt (east_step o.args.direction) (south_step o.args.direction) c.near_quarter-near.ensures)

pub seek-overflow_add-near-2 : goal.seek-overflow_add-near-2
seek-overflow_add-near-2 t c = let o = c in omega (arith, near_lt (east_step o.args.direction) (south_step o.args.direction) c.near_quarter-near.ensures)

pub seek-word_at-last-requires : goal.seek-word_at-last-requires
seek-word_at-last-requires t c = let o = c in (o.requires.0.place.node, omega (arith, near_lt (east_step o.args.direction) (south_step o.args.direction) c.near_quarter-near.ensures))

pub seek-look-requires : goal.seek-look-requires
seek-look-requires t c = let o = c in look_asks o.requires.0 o.requires.1 t o.decreases (omega (arith, near_lt (east_step o.args.direction) (south_step o.args.direction) c.near_quarter-near.ensures)) c.word_at-last.ensures o.requires.2 c.side.ensures (omega arith) (omega (arith, c.if-best3-far.false))

pub seek-returns : goal.seek-returns
seek-returns t c = let o = c in all_four o.requires.0 o.requires.1 _ o.requires.2 _ _ (omega (arith, o.ranges.best)) c.side.ensures c.near_quarter-near.ensures c.word_at-first.ensures c.look-best1.ensures c.next_edge-edge.ensures _ c.next_quarter-next.ensures c.next_way.ensures c.word_at-second.ensures c.look-best2.ensures _ c.other_way.ensures c.word_at-third.ensures c.look-best3.ensures _ c.word_at-last.ensures c.look.ensures
