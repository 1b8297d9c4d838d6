-- `ponds_find::one_leaf`: the one word.
use native.Mathlib.Omega.{arith}
use Rattle.ponds_find.proofs.OneLeafLaws.{black_one, leaf_numbered}
use Rattle.ponds_find.proofs.one_leaf.Goals as goal

pub overflow_cast-count : goal.overflow_cast-count
overflow_cast-count c = omega (arith, black_one c.args.sheet.now.table.now 0 _ c.one_if_black-count.ensures)

pub returns : goal.returns
returns c =
    let s = c in
    leaf_numbered s.args.sheet.now.accepted s.requires.1 s.args.words.now s.requires.0 _ c.one_if_black-count.ensures
