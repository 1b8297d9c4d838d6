-- `ponds_leaf::leaf`: its label, its sides, and the lines.
use mathlib.Core.Path.{refl}
use Rattle.ponds_sides.proofs.LeafLaws.{leaf_room, leaf_touched, leaf_shore, leaf_past}
use Rattle.ponds_leaf.proofs.leaf.Goals as goal

pub sides-requires : goal.sides-requires
sides-requires c =
    let r = leaf_room c.requires in
    (λ b. leaf_shore c.requires _ _ (leaf_touched c.requires _ _ _ refl refl refl _ _ c.label_at-label.ensures) b, r.0, r.1)

pub fill-requires : goal.fill-requires
fill-requires c = leaf_room c.requires

pub returns : goal.returns
returns c = λ z. leaf_past _ _ _ c.sides.ensures _ _ c.fill.ensures c.one_if_own.ensures.0 z (leaf_touched z _ _ _ refl refl refl _ _ c.label_at-label.ensures)
