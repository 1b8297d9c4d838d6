-- `distance_seek::beside`: a white leaf is at offset 0, a black one counts for nothing, a fork is searched. Assumes
-- nothing.
use mathlib.Core.Path.{sym, ◌∙◌}
use native.Mathlib.Omega.{arith}
use borrow.Author.Tests.{eq-eqb}
use Rattle.distance_seek.proofs.SearchLaws.{at_white, at_black}
use borrow.Author.Rules.{rules}
use Rattle.distance_seek.proofs.beside.Goals as goal

pub returns-then-kind-eq0 : goal.returns-then-kind-eq0
returns-then-kind-eq0 c = search (at_white, rules)

pub returns-then-kind-ne-FORK : goal.returns-then-kind-ne-FORK
returns-then-kind-ne-FORK c = at_black _ _ _ _ _ _ _ c.word_at-kind.ensures (omega arith) c.if-kind-eq0.false c.if-kind-ne-FORK.true

pub seek-requires : goal.seek-requires
seek-requires c = let f = eq-eqb _ _ (sym c.word_at-kind.ensures ∙ c.if-kind-ne-FORK.false) in (c.requires.0.spot f, f, c.requires.1, omega arith)
