use mathlib.Core.Path.{refl}
use native.Mathlib.Omega.{arith}
use Rattle.table.specs.Table.{father}
use Rattle.neighbour.specs.Search.{Ended}
use Rattle.neighbour_find.proofs.ClimbLaws.{way_is, its_direction, set_out, goes_on, goes_no_further, Turn, turn, none_above}
use Rattle.neighbour_find.proofs.ascend.Goals.{After-son_type-quadrant}
use Rattle.neighbour_find.proofs.ascend.Goals as goal

pub loop-way-init : goal.loop-way-init
loop-way-init c = (way_is _ _ c.requires.1 refl, set_out _ _ _ _ _ c.requires.0)

pub returns-then-node-eq0 : goal.returns-then-node-eq0
unfolding Ended
returns-then-node-eq0 c =
    let z = c.requires.0 in
    let a = goes_on _ _ _ _ _ z _ _ _ _ _ c.loop-way.invariant c.in-Some.is in
    none_above _ _ _ _ _ z _ _ _ _ a.1 (omega arith) (λ e. omega arith)

pub son_type-quadrant-requires : goal.son_type-quadrant-requires
son_type-quadrant-requires c =
    let z = c.requires.0 in
    let a = goes_on _ _ _ _ _ z _ _ _ _ _ c.loop-way.invariant c.in-Some.is in
    (a.1.node, (turn _ _ _ _ _ z _ _ _ _ _ _ a.1 (λ e. omega (arith, e)) refl refl).father)

-- what one turn comes to, once the quadrant is read
turned : (c : After-son_type-quadrant) → let s = c.args in let h = c.args.sheet.now in let v = c.loop-way in Turn h.n h.table.now s.p s.level s.direction v.node v.above c.in-Some.ahead v.moves c.son_type-quadrant.result (father h.table.now v.node)
turned c =
    let z = c.requires.0 in
    let a = goes_on _ _ _ _ _ z _ _ _ _ _ c.loop-way.invariant c.in-Some.is in
    turn _ _ _ _ _ z _ _ _ _ _ _ a.1 (λ e. omega (arith, e)) c.son_type-quadrant.ensures refl

pub overflow_mul-moves : goal.overflow_mul-moves
overflow_mul-moves c = omega (arith, (turned (goal.at.overflow_mul-moves c).After-son_type-quadrant).fits)

pub mirror-requires : goal.mirror-requires
mirror-requires c =
    let a = goes_on _ _ _ _ _ c.requires.0 _ _ _ _ _ c.loop-way.invariant c.in-Some.is in
    (a.0, (turned (goal.at.mirror-requires c).After-son_type-quadrant).quadrant)

pub overflow_add-moves : goal.overflow_add-moves
overflow_add-moves c = omega (arith, (turned (goal.at.overflow_add-moves c).After-son_type-quadrant).fits, c.mirror.ensures)

pub onward-way-requires : goal.onward-way-requires
onward-way-requires c =
    let a = goes_on _ _ _ _ _ c.requires.0 _ _ _ _ _ c.loop-way.invariant c.in-Some.is in
    (a.0, (turned (goal.at.onward-way-requires c).After-son_type-quadrant).quadrant)

pub word_at-node-requires : goal.word_at-node-requires
word_at-node-requires c = (c.loop-way.invariant.1.node, omega arith)

pub overflow_add-above : goal.overflow_add-above
overflow_add-above c = omega (arith, (turned (goal.at.overflow_add-above c).After-son_type-quadrant).high)

pub loop-way-smaller : goal.loop-way-smaller
loop-way-smaller c = omega (arith, (turned (goal.at.loop-way-smaller c).After-son_type-quadrant).falls, c.word_at-node.ensures)

pub loop-way-preserved : goal.loop-way-preserved
loop-way-preserved c =
    rw (c.onward-way.ensures, its_direction, c.word_at-node.ensures, c.mirror.ensures)
    (refl, (turned (goal.at.loop-way-preserved c).After-son_type-quadrant).next)

pub returns : goal.returns
unfolding Ended
returns c = goes_no_further _ _ _ _ _ c.requires.0 _ _ _ _ c.loop-way.invariant.1 c.in_default.is
