-- `neighbour_find::onward` reads ADJ for a side, OPQUAD and COMMONSIDE for a corner; where it asks COMMONSIDE, the two
-- quadrants share a side.
use Prim.Native.Nat.{◌-◌}
use Prim.Native.Nat.{◌<◌}
use mathlib.Core.Path.{sym, ◌∙◌}
use native.Mathlib.Omega.{arith}
use Rattle.neighbour.proofs.SearchLaws.{side_defined, onward_opposite, onward_corner, onward_shared}
use Rattle.neighbour_find.proofs.ClimbLaws.{way_is, way_stays, way_side}
use borrow.Author.Rules.{rules}
use Rattle.quad.specs.Direction.{common_side_of}
use Rattle.neighbour_find.proofs.onward.Goals.{After-shared_side}
use Rattle.neighbour_find.proofs.onward.Goals as goal

pub returns-then-direction-lt4 : goal.returns-then-direction-lt4
returns-then-direction-lt4 c = search (way_side, rules)

pub returns-then-quadrant-opquad : goal.returns-then-quadrant-opquad
returns-then-quadrant-opquad c = search (way_stays, onward_opposite, rules)

pub returns-then-quadrant-corner : goal.returns-then-quadrant-corner
returns-then-quadrant-corner c = way_is _ _ c.requires.0 (search (onward_corner, rules))

shared : (c : After-shared_side) → common_side_of c.args.quadrant (c.args.direction - 4) < 4
shared c =
    let s = c.args in
    side_defined s.quadrant (s.direction - 4) c.requires.1 (omega arith) (λ e. c.if-quadrant-opquad.false (e ∙ sym c.opquad.ensures)) c.if-quadrant-corner.false

pub shared_side-requires : goal.shared_side-requires
shared_side-requires c =
    let s = c.args in
    (search rules, omega arith, side_defined s.quadrant (s.direction - 4) (search rules) (omega arith) (λ e. c.if-quadrant-opquad.false (e ∙ sym c.opquad.ensures)) c.if-quadrant-corner.false)

pub returns : goal.returns
returns c = way_is _ _ (omega (arith, c.shared_side.ensures, shared c)) (search (onward_shared, rules))
