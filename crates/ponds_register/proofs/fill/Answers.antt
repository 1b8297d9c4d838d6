-- `ponds_register::fill`: what the root gives a cleared register.
use Rattle.table.proofs.TypeLaws.{told_fork, told_leaf}
use Rattle.ponds_pixels.proofs.UnderLaws.{sheet_entering, sheet_filled, number_there, entering_passing, leaf_entered}
use Rattle.ponds_register.proofs.fill.Goals as goal

pub pass_fork-requires : goal.pass_fork-requires
pass_fork-requires c =
    (sheet_entering c.requires.0 _ _ c.requires.1 c.clear.ensures, told_fork c.args.table.now 0 _ c.word_at.ensures c.if-word_at-eq-FORK.true)

pub returns-then-word_at-eq-FORK : goal.returns-then-word_at-eq-FORK
returns-then-word_at-eq-FORK c =
    sheet_filled c.requires.0 _ _ c.requires.1 c.clear.ensures _ c.pass_fork.ensures

pub pass-requires : goal.pass-requires
pass-requires c =
    let e = sheet_entering c.requires.0 _ _ c.requires.1 c.clear.ensures in (number_there e, entering_passing e)

pub returns-else-word_at-eq-FORK : goal.returns-else-word_at-eq-FORK
returns-else-word_at-eq-FORK c =
    let leaf = told_leaf c.args.table.now 0 _ c.word_at.ensures c.if-word_at-eq-FORK.false in
    sheet_filled c.requires.0 _ _ c.requires.1 c.clear.ensures _ (λ e. leaf_entered e _ leaf c.pass.ensures)
