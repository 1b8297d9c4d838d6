use mathlib.Core.Path.{◌∙◌}
use native.Mathlib.Omega.{arith}
use Rattle.raster.proofs.BlockLaws.{on_son}
use Rattle.raster_fill.proofs.PaintingLaws.{son_place, quarters_none, quarter_painted, fork_painted}
use Rattle.raster_decode.proofs.paint_four.Goals as goal

pub loop-q-init : goal.loop-q-init
loop-q-init c = quarters_none _ _ _ _ _ _

pub paint_pixel-requires : goal.paint_pixel-requires
paint_pixel-requires c =
    record {
      place = son_place c.requires.0 c.requires.1 c.loop-q.q _ (omega arith) c.word_at-son.ensures;
      block = on_son c.requires.0.block (omega arith) _ _ (omega arith) (omega arith);
      whole = c.loop-q.invariant.size ∙ c.requires.0.whole;
    }

pub loop-q-preserved : goal.loop-q-preserved
loop-q-preserved c =
    quarter_painted _ _ _ _ _ _ (omega arith) c.loop-q.q _ _ c.loop-q.raster _ c.requires.1 (omega arith) c.word_at-son.ensures c.loop-q.invariant c.paint_pixel.ensures

pub returns : goal.returns
returns c = fork_painted _ _ _ _ _ _ (omega arith) c.loop-q.q _ c.loop-q.raster (omega arith) c.loop-q.invariant
