use Rattle.table.proofs.RuleLaws.{all_none, all_more, all_fails}
use Rattle.table.specs.Rules.{son_alike}
use Rattle.table.specs.Table.{node_type, son}
use borrow.Author.Tests.{eq-eqb, ne_eqb}
use Prim.Native.Nat.{◌-◌}
use mathlib.Core.Path.{◌≡◌, refl, sym, ap, ◌∙◌}
use native.Mathlib.Omega.{arith}
use Rattle.table_rules.proofs.sons_alike.Goals as goal

pub word_at-first-requires : goal.word_at-first-requires
word_at-first-requires c = omega arith

pub word_at-kind-requires : goal.word_at-kind-requires
word_at-kind-requires c = (rw c.word_at-first.ensures (c.requires.1 0 (omega arith)).below, omega arith)

pub loop-q-init : goal.loop-q-init
loop-q-init c = (omega arith, refl, c.word_at-kind.ensures ∙ ap (node_type c.args.table.now) c.word_at-first.ensures)

pub word_at-son-requires : goal.word_at-son-requires
word_at-son-requires c = omega arith

pub word_at-requires : goal.word_at-requires
word_at-requires c = (rw c.word_at-son.ensures (c.requires.1 c.loop-q.q (omega arith)).below, omega arith)

pub returns-then-word_at-kind : goal.returns-then-word_at-kind
unfolding son_alike
returns-then-word_at-kind c =
    let s = c.args in
    let l = c.loop-q in
    let T = s.table.now in
    let t : c.word_at.result ≡ node_type T (son T s.p l.q) = c.word_at.ensures ∙ ap (node_type T) c.word_at-son.ensures in
    rw (← l.invariant.1) (sym (all_fails (son_alike T s.p) 4 l.q (omega arith) (ne_eqb _ _ (λ e. c.if-word_at-kind.true (t ∙ e ∙ sym l.invariant.2)))))

pub loop-q-preserved : goal.loop-q-preserved
unfolding son_alike
loop-q-preserved c =
    let s = c.args in
    let l = c.loop-q in
    let T = s.table.now in
    let t : c.word_at.result ≡ node_type T (son T s.p l.q) = c.word_at.ensures ∙ ap (node_type T) c.word_at-son.ensures in (
      omega arith,
      sym (all_more (son_alike T s.p) 4 l.q (omega arith) (eq-eqb _ _ (sym t ∙ c.if-word_at-kind.false ∙ l.invariant.2))) ∙ l.invariant.1,
      l.invariant.2,
    )

pub returns : goal.returns
returns c =
    let s = c.args in
    let l = c.loop-q in
    sym (all_none (son_alike s.table.now s.p) (4 - l.q) l.q (omega arith)) ∙ l.invariant.1
