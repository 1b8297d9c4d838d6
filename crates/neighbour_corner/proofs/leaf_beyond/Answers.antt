-- `neighbour_corner::leaf_beyond`: the neighbour, then down by the mirrored corner, is the leaf that holds the pixel
-- beyond.
use mathlib.Core.Path.{sym, ◌∙◌}
use native.Mathlib.Omega.{arith}
use Rattle.neighbour.proofs.FoundLaws.{found_facts}
use Rattle.neighbour.proofs.CornerLaws.{beyond_off, beyond_at, mirror_small}
use Rattle.neighbour_corner.proofs.leaf_beyond.Goals as goal

pub level_of-level-requires : goal.level_of-level-requires
level_of-level-requires c = c.requires.node

pub find-requires : goal.find-requires
find-requires c = let z = c.requires in (z.node, c.level_of-level.ensures, omega (arith, z.way, z.corner))

pub returns-in_err-found : goal.returns-in_err-found
returns-in_err-found c = c.from_residual.ensures ∙ beyond_off _ _ _ _ _ c.requires (sym c.find.ensures ∙ c.in_err-found.was)

pub corner_of-requires : goal.corner_of-requires
corner_of-requires c =
    let z = c.requires in
    let k = found_facts _ _ z.accepted _ _ z.node (omega (arith, z.way)) _ _ (sym c.find.ensures ∙ c.in_ok-found.was) in
    (k.below, k.level, omega (arith, c.mirror-quadrant.ensures, mirror_small _ _ _ _ _ z))

pub returns : goal.returns
returns c =
    let z = c.requires in
    let found = sym c.find.ensures ∙ c.in_ok-found.was in
    beyond_at _ _ _ _ _ z _ _ _ _ found c.mirror-quadrant.ensures c.corner_of.ensures
