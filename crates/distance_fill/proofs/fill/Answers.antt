-- `distance_fill::fill`: a fork at the root hands down a leaf that stands for the outside; a leaf at the root has one
-- word.
use mathlib.Core.Path.{refl, sym, ◌∙◌}
use borrow.Author.Tests.{eq-eqb}
use Rattle.table.proofs.TypeLaws.{told_leaf}
use Rattle.distance_fill.proofs.AroundLaws.{white_word, root_word}
use Rattle.distance_fill.proofs.HandedLaws.{root_handed, whole_filled, leaf_filled}
use mathlib.Core.Path.{◌≡◌}
use Rattle.distance.specs.Distance.{plain_outside, distance_at}
use Rattle.distance_fill.proofs.fill.Goals.{then-kind-eq0, else-kind-eq0}
use Rattle.distance_fill.proofs.fill.Goals as goal

pub sons-requires : goal.sons-requires
sons-requires c =
    let s = c in
    (root_handed _ _ s.args.sheet.now.accepted s.args.out.now s.requires _ c.outside-near.ensures (eq-eqb _ _ (sym c.word_at-kind.ensures ∙ c.if-kind-eq-FORK.true)), s.requires)

pub returns-then-kind-eq-FORK : goal.returns-then-kind-eq-FORK
returns-then-kind-eq-FORK c =
    let s = c in
    whole_filled _ _ s.args.sheet.now.accepted s.args.out.now s.requires _ c.sons.ensures

pub returns : goal.returns
returns c =
    let s = c in
    let word : c.if-kind-eq0.out ≡ distance_at plain_outside s.args.sheet.now.n s.args.sheet.now.table.now 0 =
    elim c.if-kind-eq0.branch [
      | then-kind-eq0 w ↦ w.out-is ∙ white_word _ _ _ _ c.word_at-kind.ensures w.if-kind-eq0.true
      | else-kind-eq0 w ↦ w.out-is ∙ root_word _ _ _ _ c.word_at-kind.ensures s.args.sheet.now.accepted s.args.sheet.now.accepted.sized.some w.if-kind-eq0.false c.if-kind-eq-FORK.false refl
    ] in
    leaf_filled _ _ s.args.sheet.now.accepted s.args.out.now s.requires _ (told_leaf s.args.sheet.now.table.now 0 _ c.word_at-kind.ensures c.if-kind-eq-FORK.false) word
