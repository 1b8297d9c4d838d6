use mathlib.Core.Path.{refl, sym, ◌∙◌}
use native.Mathlib.Omega.{arith}
use borrow.Author.Tests.{eq-eqb, ne_eqb}
use Rattle.neighbour_find.proofs.ClimbLaws.{go_down, one_down, arrived, stopped}
use Rattle.neighbour_find.proofs.descend.Goals as goal

pub loop-its-init : goal.loop-its-init
loop-its-init c = let z = c.requires in go_down _ _ z.accepted _ _ c.args.from z.node z.low refl

pub word_at-requires : goal.word_at-requires
word_at-requires c = (c.loop-its.invariant.below, omega arith)

pub returns-then-word_at-ne-FORK : goal.returns-then-word_at-ne-FORK
returns-then-word_at-ne-FORK c =
    stopped _ _ c.requires.accepted _ _ _ _ _ c.loop-its.invariant (ne_eqb _ _ (λ e. c.if-word_at-ne-FORK.true (c.word_at.ensures ∙ e)))

pub word_at-node-requires : goal.word_at-node-requires
word_at-node-requires c = (c.loop-its.invariant.below, omega arith)

pub loop-its-preserved : goal.loop-its-preserved
loop-its-preserved c =
    one_down _ _ c.requires.accepted _ _ _ _ _ _ c.loop-its.invariant c.loop-its-test.true
    (eq-eqb _ _ (sym c.word_at.ensures ∙ c.if-word_at-ne-FORK.false))
    c.word_at-node.ensures

pub returns : goal.returns
returns c = arrived _ _ c.requires.accepted _ _ _ _ _ c.loop-its.invariant (omega (arith, c.loop-its-test.false))
