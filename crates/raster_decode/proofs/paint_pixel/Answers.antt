-- `raster_decode::paint_pixel`: a node at level 0 is no fork.
use native.Mathlib.Omega.{arith}
use Rattle.table.proofs.AcceptedLaws.{type_byte, fork_above}
use Rattle.table.proofs.TypeLaws.{told_fork}
use Rattle.raster_fill.proofs.PaintingLaws.{painted_leaf}
use Rattle.raster_decode.proofs.paint_pixel.Goals as goal

pub overflow_cast-kind : goal.overflow_cast-kind
overflow_cast-kind c = omega (arith, c.word_at-kind.ensures, type_byte c.args.n c.args.table.now c.requires.place.accepted c.args.p c.requires.place.node)

pub returns : goal.returns
returns c =
    painted_leaf c.args.table.now _ c.args.p _ _ _ _ _ _ c.word_at-kind.ensures
    (λ e. absurd (omega (arith, fork_above c.requires.place (told_fork c.args.table.now c.args.p _ c.word_at-kind.ensures e)))) c.fill_pixel.ensures
