use Rattle.std.proofs.Common.{arith, ◌∙◌}
use Rattle.file.proofs.ReadLaws.{some_block, block_wrong, block_leaf, block_deep, block_fork, four_reach, reach_2, reach_3, reach_4, four_like, four_read}
use Rattle.file_tell.proofs.RecordLaws.{back}
use Rattle.file_tell.proofs.+read_block_read_four.Goals as goal

pub read_block-read_record-requires : goal.read_block-read_record-requires
read_block-read_record-requires t c = omega (arith, some_block c.args.level)

pub read_block-returns-in_err-root : goal.read_block-returns-in_err-root
read_block-returns-in_err-root t c = back _ _ c.from_residual.ensures ∙ block_wrong _ c.args.level _ _ c.in_err-root.ensures

pub read_block-returns-then-root-ne-FORK : goal.read_block-returns-then-root-ne-FORK
read_block-returns-then-root-ne-FORK t c = block_leaf _ c.args.level _ _ c.in_ok-root.ensures c.if-root-ne-FORK.true

pub read_block-returns-then-level-eq0 : goal.read_block-returns-then-level-eq0
read_block-returns-then-level-eq0 t c = block_deep _ _ _ _ c.in_ok-root.ensures c.if-root-ne-FORK.false c.if-level-eq0.true

pub read_block-read_four-requires : goal.read_block-read_four-requires
read_block-read_four-requires t c = (omega (arith, c.decreases, c.if-level-eq0.false), four_reach _ _ _ _ c.in_ok-root.ensures c.requires c.if-level-eq0.false)

pub read_block-returns : goal.read_block-returns
read_block-returns t c = block_fork _ _ _ _ c.in_ok-root.ensures _ c.if-root-ne-FORK.false c.if-level-eq0.false c.read_four.ensures

pub read_four-read_block-requires-2 : goal.read_four-read_block-requires-2
read_four-read_block-requires-2 t c = (omega (arith, c.decreases), reach_2 _ _ _ _ c.in_ok-nw.ensures c.requires)

pub read_four-read_block-requires-3 : goal.read_four-read_block-requires-3
read_four-read_block-requires-3 t c = (omega (arith, c.decreases), reach_3 _ _ _ _ c.in_ok-nw.ensures _ c.in_ok-ne.ensures c.requires)

pub read_four-read_block-requires-4 : goal.read_four-read_block-requires-4
read_four-read_block-requires-4 t c = (omega (arith, c.decreases), reach_4 _ _ _ _ c.in_ok-nw.ensures _ c.in_ok-ne.ensures _ c.in_ok-sw.ensures c.requires)

pub read_four-overflow_add-result : goal.read_four-overflow_add-result
read_four-overflow_add-result t c =
    omega (arith, some_block c.args.level, reach_3 _ _ _ _ c.in_ok-nw.ensures _ c.in_ok-ne.ensures c.requires, reach_4 _ _ _ _ c.in_ok-nw.ensures _ c.in_ok-ne.ensures _ c.in_ok-sw.ensures c.requires)

pub read_four-returns-then-like_leaves : goal.read_four-returns-then-like_leaves
read_four-returns-then-like_leaves t c = four_like _ _ _ _ c.in_ok-nw.ensures _ c.in_ok-ne.ensures _ c.in_ok-sw.ensures _ c.in_ok-se.ensures _ c.like_leaves.ensures c.if-like_leaves.true

pub read_four-returns : goal.read_four-returns
read_four-returns t c = four_read _ _ _ _ c.in_ok-nw.ensures _ c.in_ok-ne.ensures _ c.in_ok-sw.ensures _ c.in_ok-se.ensures _ c.like_leaves.ensures c.if-like_leaves.false
