-- `table_rules::mixed_ok` is rule 6: the sons are nodes, since rule 4 holds.
use Rattle.table.proofs.RuleLaws.{sons_in}
use Rattle.table.specs.Rules.{mixed_ok}
use Rattle.table.specs.Links.{SonsIn}
use Rattle.table.specs.Table.{node_type, son, is_fork}
use Rattle.quad.specs.Numbers.{top_colour}
use Rattle.base.proofs.BoolLaws.{on, off, not_leb}
use borrow.Author.Tests.{eq-eqb, ne_eqb}
use mathlib.Core.Bool.{true}
use mathlib.Core.Path.{◌≡◌, ap, sym, ◌∙◌}
use native.Mathlib.Omega.{arith}
use mathlib.Core.Bool.{not}
use Rattle.table_rules.proofs.mixed_ok.Goals.{Else-word_at-ne-FORK}
use Rattle.table_rules.proofs.mixed_ok.Goals as goal

sons_of : (c : Else-word_at-ne-FORK) → SonsIn c.args.table.now c.args.p
sons_of c =
    let s = c.args in
    let k : is_fork s.table.now s.p ≡ true = rw (← c.word_at.ensures) (eq-eqb _ _ c.if-word_at-ne-FORK.false) in
    sons_in s.table.now s.p k c.requires.1

pub returns-then-word_at-ne-FORK : goal.returns-then-word_at-ne-FORK
unfolding mixed_ok
returns-then-word_at-ne-FORK c = rw (mixed_ok, ← c.word_at.ensures, ne_eqb _ _ c.if-word_at-ne-FORK.true)

pub sons_alike-requires : goal.sons_alike-requires
sons_alike-requires c = (omega arith, sons_of (goal.at.sons_alike-requires c).Else-word_at-ne-FORK)

pub returns-then-not-sons_alike : goal.returns-then-not-sons_alike
unfolding mixed_ok
returns-then-not-sons_alike c =
    rw (
      mixed_ok,
      ← c.word_at.ensures,
      eq-eqb _ _ c.if-word_at-ne-FORK.false,
      off _ _ c.sons_alike.ensures (ap not c.if-not-sons_alike.true),
    )

pub word_at-requires-2 : goal.word_at-requires-2
word_at-requires-2 c = (rw c.word_at-first.ensures (sons_of (goal.at.word_at-requires-2 c).Else-word_at-ne-FORK 0 (omega arith)).below, omega arith)

pub returns : goal.returns
unfolding mixed_ok
returns c =
    let s = c.args in
    let T = s.table.now in
    let t : c.word_at-2.result ≡ node_type T (son T s.p 0) = c.word_at-2.ensures ∙ ap (node_type T) c.word_at-first.ensures in
    rw (
      mixed_ok,
      ← c.word_at.ensures,
      eq-eqb _ _ c.if-word_at-ne-FORK.false,
      on _ _ c.sons_alike.ensures (ap not c.if-not-sons_alike.false),
      ← t,
    )
    (sym (not_leb c.word_at-2.result top_colour))
