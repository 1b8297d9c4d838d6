-- `table_rules::once_ok` is rule 3: the father stands below p, and of its son words the four counts are added. Assumes
-- nothing.
use Rattle.table.proofs.RuleLaws.{rising_at, once_named}
use Rattle.table.specs.Rules.{once_ok}
use borrow.Author.Tests.{eq-eqb}
use Rattle.table.specs.Table.{nodes}
use Prim.Native.Nat.{◌+◌, ◌<◌}
use native.Mathlib.Omega.{arith}
use borrow.Author.Rules.{rules}
use Rattle.table_rules.proofs.once_ok.Goals.{After-word_at-father}
use Rattle.table_rules.proofs.once_ok.Goals as goal

-- the father is a node
below : (c : After-word_at-father) → c.word_at-father.result < nodes c.args.table.now
below c =
    let s = c in
    omega (arith, rising_at s.args.table.now (s.args.p + 1) s.args.p s.requires.1 (omega arith) c.if-p-eq0.false)

pub returns-then-p-eq0 : goal.returns-then-p-eq0
unfolding once_ok
returns-then-p-eq0 c = rw (eq-eqb _ _ c.if-p-eq0.true, once_ok)

pub names-nw-requires : goal.names-nw-requires
names-nw-requires c = (below (goal.at.names-nw-requires c).After-word_at-father, omega arith)

pub names-ne-requires : goal.names-ne-requires
names-ne-requires c = (below (goal.at.names-ne-requires c).After-word_at-father, omega arith)

pub names-sw-requires : goal.names-sw-requires
names-sw-requires c = (below (goal.at.names-sw-requires c).After-word_at-father, omega arith)

pub names-se-requires : goal.names-se-requires
names-se-requires c = (below (goal.at.names-se-requires c).After-word_at-father, omega arith)

pub returns : goal.returns
returns c = search (once_named, rules)
