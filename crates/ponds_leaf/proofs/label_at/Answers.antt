-- `ponds_leaf::label_at`: what the lines tell there, and the place.
use Rattle.ponds_sides.proofs.LeafLaws.{leaf_bounds, leaf_touching}
use Rattle.ponds_leaf.proofs.label_at.Goals as goal

pub north-requires : goal.north-requires
north-requires c = (leaf_bounds c.requires.leaf).0

pub west-requires : goal.west-requires
west-requires c = (leaf_bounds c.requires.leaf).1

pub place-requires : goal.place-requires
place-requires c = leaf_bounds c.requires.leaf

pub touch-requires : goal.touch-requires
touch-requires c = leaf_touching c.requires.leaf _ _ _ c.north.ensures c.west.ensures c.place.ensures.0

pub returns : goal.returns
returns c = rw (← c.north.ensures, ← c.west.ensures, ← c.place.ensures.0) c.touch.ensures
