-- `ponds_leaf::pixels`: pixel by pixel, and then the lines.
use native.Mathlib.Omega.{arith}
use mathlib.Core.Path.{refl}
use Rattle.table.proofs.SonsLaws.{son_read}
use Rattle.ponds_leaf.proofs.ForkLaws.{pixels_room, node_of_son}
use Rattle.ponds_leaf.proofs.FourLaws.{touching_first, touching_second, touching_third, touching_fourth, pixels_gone}
use Rattle.ponds_leaf.proofs.pixels.Goals as goal

pub place-place-requires : goal.place-place-requires
place-place-requires c = let b = pixels_room c.requires.0 c.requires.1 in (omega (arith, b.0), omega (arith, b.1))

pub north-requires : goal.north-requires
north-requires c = let b = pixels_room c.requires.0 c.requires.1 in omega (arith, b.0)

pub west-requires : goal.west-requires
west-requires c = let b = pixels_room c.requires.0 c.requires.1 in omega (arith, b.1)

pub north-requires-2 : goal.north-requires-2
north-requires-2 c = let b = pixels_room c.requires.0 c.requires.1 in omega (arith, b.0)

pub west-requires-2 : goal.west-requires-2
west-requires-2 c = let b = pixels_room c.requires.0 c.requires.1 in omega (arith, b.1)

pub fill_last-requires : goal.fill_last-requires
fill_last-requires c = pixels_room c.requires.0 c.requires.1

pub word_at-requires : goal.word_at-requires
word_at-requires c = node_of_son c.requires.0 c.requires.1 0 (omega arith) _ (son_read _ _ _ c.four_sons.ensures 0 (omega arith))

pub word_at-requires-2 : goal.word_at-requires-2
word_at-requires-2 c = node_of_son c.requires.0 c.requires.1 1 (omega arith) _ (son_read _ _ _ c.four_sons.ensures 1 (omega arith))

pub word_at-requires-3 : goal.word_at-requires-3
word_at-requires-3 c = node_of_son c.requires.0 c.requires.1 2 (omega arith) _ (son_read _ _ _ c.four_sons.ensures 2 (omega arith))

pub word_at-requires-4 : goal.word_at-requires-4
word_at-requires-4 c = node_of_son c.requires.0 c.requires.1 3 (omega arith) _ (son_read _ _ _ c.four_sons.ensures 3 (omega arith))

pub touch-a-requires : goal.touch-a-requires
touch-a-requires c = touching_first _ _ _ _ _ _ c.requires.1 _ c.four_sons.ensures _ _ _ _ c.word_at.ensures refl refl refl _ _ _ _ c.north.ensures refl c.west.ensures refl _ c.place-place.ensures.0 c.requires.0

pub touch-b-requires : goal.touch-b-requires
touch-b-requires c =
    touching_second _ _ _ _ _ _ c.requires.1 _ c.four_sons.ensures _ _ _ _ c.word_at.ensures c.word_at-2.ensures refl refl _ _ _ _ c.north.ensures c.north-2.ensures c.west.ensures refl _ c.place-place.ensures.0
    c.requires.0 _ _ c.touch-a.ensures

pub touch-c-requires : goal.touch-c-requires
touch-c-requires c =
    touching_third _ _ _ _ _ _ c.requires.1 _ c.four_sons.ensures _ _ _ _ c.word_at.ensures c.word_at-2.ensures c.word_at-3.ensures refl _ _ _ _ c.north.ensures c.north-2.ensures c.west.ensures c.west-2.ensures _
    c.place-place.ensures.0 c.requires.0 _ _ c.touch-a.ensures _ _ c.touch-b.ensures

pub touch-d-requires : goal.touch-d-requires
touch-d-requires c =
    touching_fourth _ _ _ _ _ _ c.requires.1 _ c.four_sons.ensures _ _ _ _ c.word_at.ensures c.word_at-2.ensures c.word_at-3.ensures c.word_at-4.ensures _ _ _ _ c.north.ensures c.north-2.ensures c.west.ensures
    c.west-2.ensures _ c.place-place.ensures.0 c.requires.0 _ _ c.touch-a.ensures _ _ c.touch-b.ensures _ _ c.touch-c.ensures

pub returns : goal.returns
returns c =
    pixels_gone _ _ _ _ _ _ c.requires.1 _ c.four_sons.ensures _ _ _ _ c.word_at.ensures c.word_at-2.ensures c.word_at-3.ensures c.word_at-4.ensures _ _ _ _ c.north.ensures c.north-2.ensures c.west.ensures
    c.west-2.ensures _ c.place-place.ensures.0 c.requires.0 _ _ c.touch-a.ensures _ _ c.touch-b.ensures _ _ c.touch-c.ensures _ _ c.touch-d.ensures _ c.fill_last.ensures _
    (omega (arith, c.one_if_own.ensures.0, c.one_if_own-2.ensures.0, c.one_if_own-3.ensures.0, c.one_if_own-4.ensures.0))
