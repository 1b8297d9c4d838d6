-- `raster_decode::paint`: a fork, or a leaf's block.
use Rattle.raster_fill.proofs.PaintingLaws.{painted_leaf}
use native.Mathlib.Omega.{arith}
use Rattle.table.proofs.AcceptedLaws.{type_byte}
use Rattle.table.proofs.TypeLaws.{told_fork}
use Rattle.raster_decode.proofs.paint.Goals as goal

pub overflow_cast-kind : goal.overflow_cast-kind
overflow_cast-kind c = omega (arith, c.word_at-kind.ensures, type_byte c.args.n c.args.table.now c.requires.place.accepted c.args.p c.requires.place.node)

pub paint_fork-requires : goal.paint_fork-requires
paint_fork-requires c = (c.requires, told_fork c.args.table.now c.args.p _ c.word_at-kind.ensures c.if-kind-eq-FORK.true)

pub returns-else-kind-eq-FORK : goal.returns-else-kind-eq-FORK
returns-else-kind-eq-FORK c = painted_leaf c.args.table.now _ c.args.p _ _ _ _ _ _ c.word_at-kind.ensures c.if-kind-eq-FORK.false c.fill_leaf.ensures
