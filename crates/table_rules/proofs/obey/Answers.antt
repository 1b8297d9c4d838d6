-- `table_rules::obey` tries the rules in their order; rule 2 makes the nodes as far as p rise.
use Rattle.table.proofs.RuleLaws.{rising_on}
use Rattle.table.specs.Rules.{fault_at}
use Rattle.base.proofs.BoolLaws.{on}
use Rattle.base.proofs.CaseLaws.{cases}
use native.Mathlib.Omega.{arith}
use borrow.Author.Rules.{rules}
use mathlib.Core.Path.{ap}
use mathlib.Core.Bool.{not}
use Rattle.table_rules.proofs.obey.Goals as goal

pub returns-then-not-type_ok : goal.returns-then-not-type_ok
unfolding fault_at
returns-then-not-type_ok c = search (cases, rules) depth 9

pub returns-then-not-father_ok : goal.returns-then-not-father_ok
unfolding fault_at
returns-then-not-father_ok c = search (cases, rules) depth 9

pub once_ok-requires : goal.once_ok-requires
once_ok-requires c = (omega arith, rising_on _ _ _ c.requires.1 c.father_ok.ensures (ap not c.if-not-father_ok.false))

pub returns-then-not-once_ok : goal.returns-then-not-once_ok
unfolding fault_at
returns-then-not-once_ok c = search (cases, rules) depth 9

pub returns-then-not-sons_ok : goal.returns-then-not-sons_ok
unfolding fault_at
returns-then-not-sons_ok c = search (cases, rules) depth 9

pub depth_ok-requires : goal.depth_ok-requires
depth_ok-requires c = (omega arith, rising_on _ _ _ c.requires.1 c.father_ok.ensures (ap not c.if-not-father_ok.false))

pub returns-then-not-depth_ok : goal.returns-then-not-depth_ok
unfolding fault_at
returns-then-not-depth_ok c = search (cases, rules) depth 9

pub mixed_ok-requires : goal.mixed_ok-requires
mixed_ok-requires c = (omega arith, on _ _ c.sons_ok.ensures (ap not c.if-not-sons_ok.false))

pub returns-then-not-mixed_ok : goal.returns-then-not-mixed_ok
unfolding fault_at
returns-then-not-mixed_ok c = search (cases, rules) depth 9

pub returns : goal.returns
unfolding fault_at
returns c = search (cases, rules) depth 9
