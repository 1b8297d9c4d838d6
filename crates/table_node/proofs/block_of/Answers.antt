use borrow.Author.Rules.{rules}
use mathlib.Core.Path.{refl}
use native.Mathlib.Omega.{arith}
use Rattle.table.proofs.BlockLaws.{climbed_none, Turn, turn, block_is}
use Rattle.table_node.proofs.block_of.Goals.{After-son_type-son}
use Rattle.table_node.proofs.block_of.Goals as goal

pub loop-q-init : goal.loop-q-init
loop-q-init c = search (climbed_none, rules)

pub son_type-son-requires : goal.son_type-son-requires
son_type-son-requires c =
    let t = turn (record { accepted = c.args.sheet.now.accepted; node = c.requires }) c.loop-q.invariant c.loop-q-test.true refl in
    omega (arith, t.node, t.below)

-- what a turn knows, once `son_type` has answered
known : (c : After-son_type-son) → Turn c.args.sheet.now.n c.args.sheet.now.table.now c.args.p c.loop-q.q c.loop-q.unit c.loop-q.column c.loop-q.row c.loop-q.level c.son_type-son.result
known c = turn (record { accepted = c.args.sheet.now.accepted; node = c.requires }) c.loop-q.invariant c.loop-q-test.true c.son_type-son.ensures

pub overflow_mul-column : goal.overflow_mul-column
overflow_mul-column c = omega (arith, (known (goal.at.overflow_mul-column c).After-son_type-son).column)

pub overflow_add-column : goal.overflow_add-column
overflow_add-column c = omega (arith, (known (goal.at.overflow_add-column c).After-son_type-son).column)

pub overflow_cast-row : goal.overflow_cast-row
overflow_cast-row c = omega (arith, (known (goal.at.overflow_cast-row c).After-son_type-son).son)

pub overflow_mul-row : goal.overflow_mul-row
overflow_mul-row c = omega (arith, (known (goal.at.overflow_mul-row c).After-son_type-son).column, (known (goal.at.overflow_mul-row c).After-son_type-son).row)

pub overflow_add-row : goal.overflow_add-row
overflow_add-row c = omega (arith, (known (goal.at.overflow_add-row c).After-son_type-son).column, (known (goal.at.overflow_add-row c).After-son_type-son).row)

pub overflow_mul-unit : goal.overflow_mul-unit
overflow_mul-unit c = omega (arith, (known (goal.at.overflow_mul-unit c).After-son_type-son).size)

pub overflow_sub-level : goal.overflow_sub-level
overflow_sub-level c = omega (arith, (known (goal.at.overflow_sub-level c).After-son_type-son).level)

pub word_at-q-requires : goal.word_at-q-requires
word_at-q-requires c = omega (arith, (known (goal.at.word_at-q-requires c).After-son_type-son).node)

pub loop-q-smaller : goal.loop-q-smaller
loop-q-smaller c = omega (arith, (known (goal.at.loop-q-smaller c).After-son_type-son).below)

pub loop-q-preserved : goal.loop-q-preserved
loop-q-preserved c = (known (goal.at.loop-q-preserved c).After-son_type-son).next _ c.word_at-q.ensures

pub returns : goal.returns
returns c = search (block_is, rules)
