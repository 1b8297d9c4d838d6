-- `ponds_find::number`: one leaf, or the leaders found and then numbered.
use native.Mathlib.Omega.{arith}
use Rattle.table.proofs.TypeLaws.{told_fork, told_leaf}
use Rattle.ponds_find.proofs.RankedLaws.{ranked_numbered}
use Rattle.ponds_find.proofs.number.Goals as goal

pub one_leaf-requires : goal.one_leaf-requires
one_leaf-requires c =
    let s = c in
    (s.requires, told_leaf s.args.sheet.now.table.now 0 _ c.word_at.ensures (λ e. omega (arith, e)))

pub lead-requires : goal.lead-requires
lead-requires c =
    let s = c in
    (s.requires, told_fork s.args.sheet.now.table.now 0 _ c.word_at.ensures (omega arith))

pub returns : goal.returns
returns c = ranked_numbered _ _ _ _ c.args.sheet.now.accepted c.number.ensures
