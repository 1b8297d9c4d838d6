use native.Mathlib.Omega.{arith}
use Rattle.distance_fill.proofs.HandedLaws.{filling_none, filling_all, fork_son, filling_pixel}
use Rattle.distance_fill.proofs.four_pixels.Goals as goal

pub offset_bounds-out-p : goal.offset_bounds-out-p
offset_bounds-out-p c = omega (arith, c.requires.0.place.node)

pub bounds-out-p : goal.bounds-out-p
bounds-out-p c = omega (arith, c.requires.0.place.node, c.requires.1)

pub loop-q-init : goal.loop-q-init
loop-q-init c = filling_none _ _ c.args.out.now _ _ c.requires.0 c.requires.1

pub word_at-pixel-requires : goal.word_at-pixel-requires
word_at-pixel-requires c = (c.requires.0.place.node, omega arith)

pub overflow_mul-out : goal.overflow_mul-out
overflow_mul-out c = omega (arith, fork_son c.requires.0 c.loop-q.q _ (omega arith) c.word_at-pixel.ensures)

pub overflow_add-out : goal.overflow_add-out
overflow_add-out c = omega (arith, fork_son c.requires.0 c.loop-q.q _ (omega arith) c.word_at-pixel.ensures)

pub offset_bounds-table-pixel : goal.offset_bounds-table-pixel
offset_bounds-table-pixel c = omega (arith, fork_son c.requires.0 c.loop-q.q _ (omega arith) c.word_at-pixel.ensures)

pub bounds-table-pixel : goal.bounds-table-pixel
bounds-table-pixel c = omega (arith, fork_son c.requires.0 c.loop-q.q _ (omega arith) c.word_at-pixel.ensures)

pub offset_bounds-out-pixel : goal.offset_bounds-out-pixel
offset_bounds-out-pixel c = omega (arith, fork_son c.requires.0 c.loop-q.q _ (omega arith) c.word_at-pixel.ensures)

pub bounds-out-pixel : goal.bounds-out-pixel
bounds-out-pixel c = omega (arith, fork_son c.requires.0 c.loop-q.q _ (omega arith) c.word_at-pixel.ensures, c.loop-q.invariant.long)

pub loop-q-preserved : goal.loop-q-preserved
loop-q-preserved c = filling_pixel c.requires.0 c.loop-q.invariant (omega arith) _ c.word_at-pixel.ensures

pub returns : goal.returns
returns c = filling_all _ _ _ _ _ c.requires.0 c.requires.1 _ _ (omega arith) c.loop-q.invariant
