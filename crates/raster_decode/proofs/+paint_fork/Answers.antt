use mathlib.Core.Path.{◌∙◌}
use native.Mathlib.Omega.{arith}
use Rattle.table.proofs.AcceptedLaws.{type_byte, fork_above}
use Rattle.table.proofs.TypeLaws.{told_fork}
use Rattle.raster.proofs.BlockLaws.{on_son}
use Rattle.raster_fill.proofs.PaintingLaws.{painted_leaf, son_place, quarters_none, quarter_painted, fork_painted}
use Prim.Native.Nat.{◌-◌}
use Rattle.raster_decode.proofs.+paint_fork.Goals.{then-kind-eq-FORK, else-kind-eq-FORK}
use Rattle.raster_decode.proofs.+paint_fork.Goals as goal

pub overflow_sub-half : goal.overflow_sub-half
overflow_sub-half t c = omega (arith, fork_above c.requires.0.place c.requires.1)

pub loop-q-init : goal.loop-q-init
loop-q-init t c = quarters_none _ _ _ _ _ _

pub word_at-kind-requires : goal.word_at-kind-requires
word_at-kind-requires t c = ((son_place c.requires.0 c.requires.1 c.loop-q.q _ (omega arith) c.word_at-son.ensures).node, omega arith)

pub paint_fork-requires : goal.paint_fork-requires
paint_fork-requires t c = (
  omega (arith, c.decreases, fork_above c.requires.0.place c.requires.1),
  (
    record {
      place = son_place c.requires.0 c.requires.1 c.loop-q.q _ (omega arith) c.word_at-son.ensures;
      block = on_son c.requires.0.block (fork_above c.requires.0.place c.requires.1) _ _ (omega arith) (omega arith);
      whole = c.loop-q.invariant.size ∙ c.requires.0.whole;
    },
    told_fork c.args.table.now c.word_at-son.result _ c.word_at-kind.ensures c.if-kind-eq-FORK.true,
  ),
)

pub overflow_cast-kind : goal.overflow_cast-kind
overflow_cast-kind t c =
    let k = son_place c.requires.0 c.requires.1 c.loop-q.q _ (omega arith) c.word_at-son.ensures in
    omega (arith, c.word_at-kind.ensures, type_byte c.args.n c.args.table.now k.accepted c.word_at-son.result k.node)

pub fill_leaf-requires : goal.fill_leaf-requires
fill_leaf-requires t c =
    (c.requires.0.place.accepted.sized.level, on_son c.requires.0.block (fork_above c.requires.0.place c.requires.1) _ _ (omega arith) (omega arith), c.loop-q.invariant.size ∙ c.requires.0.whole)

pub loop-q-preserved : goal.loop-q-preserved
loop-q-preserved t c =
    let above = fork_above c.requires.0.place c.requires.1 in
    elim c.if-kind-eq-FORK.branch [
      | then-kind-eq-FORK w ↦
          rw w.raster-is (quarter_painted _ _ _ _ _ _ above c.loop-q.q _ _ c.loop-q.raster _ c.requires.1 (omega arith) c.word_at-son.ensures c.loop-q.invariant w.paint_fork.ensures)
      | else-kind-eq-FORK w ↦
          let leaf = painted_leaf c.args.table.now (c.args.level - 1) c.word_at-son.result _ _ _ _ c.loop-q.raster _ c.word_at-kind.ensures w.if-kind-eq-FORK.false w.fill_leaf.ensures in
          rw w.raster-is (quarter_painted _ _ _ _ _ _ above c.loop-q.q _ _ c.loop-q.raster _ c.requires.1 (omega arith) c.word_at-son.ensures c.loop-q.invariant leaf)
    ]

pub returns : goal.returns
returns t c = fork_painted _ _ _ _ _ _ (fork_above c.requires.0.place c.requires.1) c.loop-q.q _ c.loop-q.raster (omega arith) c.loop-q.invariant
