-- `distance_fill::leaf_distance`: the nodes around the leaf come from its father's, and the least offset in them tells
-- the distance.
use mathlib.Core.Path.{refl}
use native.Mathlib.Omega.{arith}
use Rattle.distance_fill.proofs.HandedLaws.{fork_son, handed_nodes, leaf_white, leaf_asks, leaf_edge, leaf_word}
use Rattle.distance_fill.proofs.leaf_distance.Goals as goal

pub word_at-requires : goal.word_at-requires
word_at-requires c = (fork_son c.requires.0.at c.args.quadrant _ c.requires.1 c.word_at-leaf.ensures, omega arith)

pub returns-then-word_at-eq0 : goal.returns-then-word_at-eq0
returns-then-word_at-eq0 c =
    let s = c in
    leaf_white _ s.requires.0 _ s.requires.1 s.requires.2 _ _ c.word_at-leaf.ensures c.word_at.ensures c.if-word_at-eq0.true

pub of_son-requires : goal.of_son-requires
of_son-requires c =
    let s = c in
    (s.requires.0.at.place.node, s.requires.1, handed_nodes _ s.requires.0, refl)

pub around-requires : goal.around-requires
around-requires c =
    let s = c in
    leaf_asks _ s.requires.0 _ s.requires.1 s.requires.2 _ _ c.word_at-leaf.ensures c.word_at.ensures c.if-word_at-eq0.false _ c.of_son.ensures

pub to_edge-requires : goal.to_edge-requires
to_edge-requires c =
    let s = c in
    leaf_edge _ s.requires.0 _ s.requires.1 s.requires.2 _ _ c.word_at-leaf.ensures c.word_at.ensures c.if-word_at-eq0.false _ c.of_son.ensures _ _ c.around.ensures c.side.ensures

pub returns : goal.returns
returns c =
    let s = c in
    leaf_word _ s.requires.0 _ s.requires.1 s.requires.2 _ _ c.word_at-leaf.ensures c.word_at.ensures c.if-word_at-eq0.false _ c.of_son.ensures _ _ c.around.ensures c.side.ensures _ c.to_edge.ensures
