-- What the first pass told decides; the second pass runs only where there is room.
use Rattle.std.proofs.Common.{arith}
use Rattle.file_tell.proofs.RecordLaws.{back}
use Rattle.file_read.proofs.ReadCallLaws.{reads_faulty, sheet_fits, reads_full, link_asks, reads_sheet}
use Rattle.file_read.proofs.read.Goals as goal

pub returns-in_err-level : goal.returns-in_err-level
returns-in_err-level c = rw (back _ _ c.from_residual.ensures) (reads_faulty _ _ _ c.in_err-level.ensures)

pub overflow_mul-words : goal.overflow_mul-words
overflow_mul-words c = omega (arith, sheet_fits c.args.file.now c.args.table.now _ c.in_ok-level.ensures)

pub returns-then-table-words : goal.returns-then-table-words
returns-then-table-words c = reads_full _ _ _ c.in_ok-level.ensures c.if-table-words.true

pub link_block-requires : goal.link_block-requires
link_block-requires c = link_asks _ _ _ c.in_ok-level.ensures c.if-table-words.false

pub with_level-requires : goal.with_level-requires
with_level-requires c = omega (arith, sheet_fits c.args.file.now c.args.table.now _ c.in_ok-level.ensures)

pub returns : goal.returns
returns c = reads_sheet _ _ _ c.in_ok-level.ensures c.if-table-words.false _ _ c.link_block.ensures _ c.with_level.ensures
