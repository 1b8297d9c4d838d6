use mathlib.Core.Path.{refl}
use native.Mathlib.Omega.{arith}
use Rattle.table.proofs.AcceptedLaws.{fork_above}
use Rattle.distance_fill.proofs.HandedLaws.{filling_none, filling_all, fork_son, filling_fork, filling_leaf, handed_nodes, son_fork_at, son_handed_at, fills_at, handed_half, son_fork, son_leaf}
use Rattle.distance_fill.proofs.+below_sons.Goals.{sons-then-word_at-eq-FORK, sons-else-word_at-eq-FORK}
use Rattle.distance_fill.proofs.+below_sons.Goals as goal

pub below-overflow_add-quadrant : goal.below-overflow_add-quadrant
below-overflow_add-quadrant t c = omega arith

pub below-word_at-fork-requires : goal.below-word_at-fork-requires
below-word_at-fork-requires t c = (c.requires.0.at.place.node, omega (arith, c.requires.1))

pub below-four_pixels-requires : goal.below-four_pixels-requires
below-four_pixels-requires t c =
    let s = c in
    (son_fork_at s.args.level s.requires.0 s.args.quadrant s.requires.1 s.requires.2 _ _ c.word_at-fork.ensures c.if-level-eq1.true, s.requires.3)

pub below-returns-then-level-eq1 : goal.below-returns-then-level-eq1
below-returns-then-level-eq1 t c = fills_at _ _ _ _ _ _ _ _ c.word_at-fork.ensures c.if-level-eq1.true c.four_pixels.ensures

pub below-of_son-requires : goal.below-of_son-requires
below-of_son-requires t c =
    let s = c in
    (s.requires.0.at.place.node, s.requires.1, handed_nodes _ s.requires.0, refl)

pub below-sons-requires : goal.below-sons-requires
below-sons-requires t c =
    let s = c in
    (omega (arith, s.decreases), (son_handed_at s.args.level s.requires.0 s.args.quadrant s.requires.1 s.requires.2 _ _ c.word_at-fork.ensures c.of_son.ensures, s.requires.3))

pub below-returns : goal.below-returns
below-returns t c = fills_at _ _ _ _ _ _ _ _ c.word_at-fork.ensures refl c.sons.ensures

pub sons-offset_bounds-out-p : goal.sons-offset_bounds-out-p
sons-offset_bounds-out-p t c = omega (arith, c.requires.0.at.place.node)

pub sons-bounds-out-p : goal.sons-bounds-out-p
sons-bounds-out-p t c = omega (arith, c.requires.0.at.place.node, c.requires.1)

pub sons-overflow_sub-half : goal.sons-overflow_sub-half
sons-overflow_sub-half t c = omega (arith, fork_above c.requires.0.at.place c.requires.0.at.fork)

pub sons-loop-quadrant-init : goal.sons-loop-quadrant-init
sons-loop-quadrant-init t c = filling_none _ _ c.args.out.now _ _ c.requires.0.at c.requires.1

pub sons-overflow_add-quadrant : goal.sons-overflow_add-quadrant
sons-overflow_add-quadrant t c = omega arith

pub sons-word_at-son-requires : goal.sons-word_at-son-requires
sons-word_at-son-requires t c = (c.requires.0.at.place.node, omega arith)

pub sons-word_at-requires : goal.sons-word_at-requires
sons-word_at-requires t c = (fork_son c.requires.0.at c.loop-quadrant.quadrant _ (omega arith) c.word_at-son.ensures, omega arith)

pub sons-below-requires : goal.sons-below-requires
sons-below-requires t c =
    let s = c in
    let l = c in
    (omega (arith, s.decreases, fork_above s.requires.0.at.place s.requires.0.at.fork), (handed_half s.requires.0, omega arith, son_fork s.args.table.now s.args.p l.loop-quadrant.quadrant _ _ c.word_at-son.ensures c.word_at.ensures c.if-word_at-eq-FORK.true, l.loop-quadrant.invariant.long))

pub sons-leaf_distance-requires : goal.sons-leaf_distance-requires
sons-leaf_distance-requires t c =
    let s = c in
    (handed_half s.requires.0, omega arith, son_leaf s.args.table.now s.args.p c.loop-quadrant.quadrant _ _ c.word_at-son.ensures c.word_at.ensures c.if-word_at-eq-FORK.false)

pub sons-offset_bounds-out-son : goal.sons-offset_bounds-out-son
sons-offset_bounds-out-son t c = omega (arith, fork_son c.requires.0.at c.loop-quadrant.quadrant _ (omega arith) c.word_at-son.ensures)

pub sons-bounds-out-son : goal.sons-bounds-out-son
sons-bounds-out-son t c =
    let s = c in
    omega (arith, fork_son c.requires.0.at s.loop-quadrant.quadrant _ (omega arith) c.word_at-son.ensures, s.loop-quadrant.invariant.long)

pub sons-loop-quadrant-preserved : goal.sons-loop-quadrant-preserved
sons-loop-quadrant-preserved t c =
    elim c.if-word_at-eq-FORK.branch [
      | sons-then-word_at-eq-FORK w ↦ rw w.out-is (filling_fork c.requires.0.at c.loop-quadrant.invariant (omega arith) _ w.below.ensures)
      | sons-else-word_at-eq-FORK w ↦
          rw w.out-is
          (filling_leaf c.requires.0.at c.loop-quadrant.invariant (omega arith) _ _ c.word_at-son.ensures (son_leaf c.args.table.now c.args.p c.loop-quadrant.quadrant _ _ c.word_at-son.ensures c.word_at.ensures w.if-word_at-eq-FORK.false) w.leaf_distance.ensures)
    ]

pub sons-returns : goal.sons-returns
sons-returns t c = filling_all _ _ _ _ _ c.requires.0.at c.requires.1 _ _ (omega arith) c.loop-quadrant.invariant
