use mathlib.Core.Path.{refl, sym, ◌∙◌}
use native.Mathlib.Omega.{arith}
use borrow.Author.Tests.{eq-eqb, ne_eqb}
use Rattle.table.proofs.AcceptedLaws.{sons_of}
use Rattle.neighbour.proofs.CornerLaws.{level_down, corner_fork, corner_leaf}
use Rattle.neighbour_corner.proofs.corner_of.Goals as goal

pub loop-table-init : goal.loop-table-init
loop-table-init c = (c.requires.0, c.requires.1, refl)

pub word_at-requires : goal.word_at-requires
word_at-requires c = (c.loop-table.invariant.0, omega arith)

pub overflow_add-quadrant : goal.overflow_add-quadrant
overflow_add-quadrant c = omega (arith, c.requires.2)

pub word_at-p-requires : goal.word_at-p-requires
word_at-p-requires c = (c.loop-table.invariant.0, omega (arith, c.requires.2))

pub overflow_sub-its : goal.overflow_sub-its
overflow_sub-its c =
    let z = c.requires in
    let v = c.loop-table.invariant in
    omega (arith, v.1, level_down _ _ c.args.sheet.now.accepted _ _ v.0 z.2 (eq-eqb _ _ (sym c.word_at.ensures ∙ c.loop-table-test.true)))

pub loop-table-smaller : goal.loop-table-smaller
loop-table-smaller c =
    let z = c.requires in
    let i = sons_of _ _ c.args.sheet.now.accepted _ c.loop-table.invariant.0 (eq-eqb _ _ (sym c.word_at.ensures ∙ c.loop-table-test.true)) _ z.2 in
    omega (arith, i.above, i.below, c.word_at-p.ensures)

pub loop-table-preserved : goal.loop-table-preserved
loop-table-preserved c =
    let z = c.requires in
    let v = c.loop-table.invariant in
    let f = eq-eqb _ _ (sym c.word_at.ensures ∙ c.loop-table-test.true) in
    rw c.word_at-p.ensures (
      (sons_of _ _ c.args.sheet.now.accepted _ v.0 f _ z.2).below,
      omega (arith, v.1, level_down _ _ c.args.sheet.now.accepted _ _ v.0 z.2 f),
      corner_fork _ _ c.args.sheet.now.accepted _ _ v.0 z.2 f ∙ v.2,
    )

pub returns : goal.returns
returns c =
    let v = c.loop-table.invariant in
    corner_leaf _ _ c.args.sheet.now.accepted _ _ _ _ (ne_eqb _ _ (λ e. c.loop-table-test.false (c.word_at.ensures ∙ e))) v.1 v.2
