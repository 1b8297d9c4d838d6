-- The check, then the room; nothing is written before both have passed.
use Rattle.std.proofs.Common.{arith}
use Rattle.answer.proofs.OutcomeLaws.{given_back}
use Rattle.file_write.proofs.WriteCallLaws.{writes_refused, count_fits, writes_full, header_asks, root_ok, writes_sheet}
use Rattle.file_write.proofs.write.Goals as goal

pub returns-in_err-count : goal.returns-in_err-count
returns-in_err-count c = rw (given_back _ _ c.from_residual.ensures) (writes_refused _ _ _ _ c.in_err-count.ensures)

pub overflow_mul-bytes : goal.overflow_mul-bytes
overflow_mul-bytes c = omega (arith, count_fits _ _ c.args.file.now _ c.in_ok-count.ensures)

pub overflow_add-bytes : goal.overflow_add-bytes
overflow_add-bytes c = omega (arith, count_fits _ _ c.args.file.now _ c.in_ok-count.ensures)

pub returns-then-file-bytes : goal.returns-then-file-bytes
returns-then-file-bytes c = writes_full _ _ _ _ c.in_ok-count.ensures c.if-file-bytes.true

pub put_header-requires : goal.put_header-requires
put_header-requires c = header_asks _ _ _ _ c.in_ok-count.ensures c.if-file-bytes.false

pub write_block-requires : goal.write_block-requires
write_block-requires c = root_ok _ _ _ _ c.in_ok-count.ensures c.if-file-bytes.false _ c.put_header.ensures

pub returns : goal.returns
returns c = writes_sheet _ _ _ _ c.in_ok-count.ensures c.if-file-bytes.false _ c.put_header.ensures _ _ c.write_block.ensures
