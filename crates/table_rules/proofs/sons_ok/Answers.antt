use Rattle.table.proofs.RuleLaws.{all_none, all_more, all_fails}
use Rattle.table.specs.Rules.{word_ok, sons_ok}
use borrow.Author.Tests.{not-true, not-false}
use Prim.Native.Nat.{◌-◌}
use mathlib.Core.Path.{refl, sym, ◌∙◌}
use native.Mathlib.Omega.{arith}
use mathlib.Core.Path.{ap}
use mathlib.Core.Bool.{not}
use Rattle.table_rules.proofs.sons_ok.Goals as goal

pub loop-q-init : goal.loop-q-init
loop-q-init c = (omega arith, refl)

pub word_ok-requires : goal.word_ok-requires
word_ok-requires c = omega arith

pub returns-then-not-word_ok : goal.returns-then-not-word_ok
unfolding sons_ok
returns-then-not-word_ok c =
    let l = c.loop-q in
    rw (← l.invariant.1) (sym (all_fails (word_ok _ _) 4 l.q (omega arith) (sym c.word_ok.ensures ∙ not-true _ (ap not c.if-not-word_ok.true))))

pub loop-q-preserved : goal.loop-q-preserved
loop-q-preserved c =
    let l = c.loop-q in
    (omega arith, sym (all_more (word_ok _ _) 4 l.q (omega arith) (sym c.word_ok.ensures ∙ not-false _ (ap not c.if-not-word_ok.false))) ∙ l.invariant.1)

pub returns : goal.returns
unfolding sons_ok
returns c =
    let l = c.loop-q in
    sym (all_none (word_ok _ _) (4 - l.q) l.q (omega arith)) ∙ l.invariant.1
