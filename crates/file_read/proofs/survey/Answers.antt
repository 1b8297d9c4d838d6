-- `file_read::survey`: each function gave its part of the definition, header, block, closing; the block by the fast
-- way, or byte by byte.
use Rattle.std.proofs.Common.{arith, ◌∙◌}
use Rattle.file.proofs.SurveyLaws.{survey_stop, block_asks, survey_bad, close_long, scan_late, scan_near, survey_scanned}
use Rattle.file_tell.proofs.RecordLaws.{back}
use Rattle.file_read.proofs.survey.Goals as goal

pub returns-in_err-level : goal.returns-in_err-level
returns-in_err-level c = back _ _ c.from_residual.ensures ∙ survey_stop _ _ c.in_err-level.ensures

pub scan_root-requires : goal.scan_root-requires
scan_root-requires c = close_long _ _ c.in_ok-level.ensures

pub overflow_cast-end : goal.overflow_cast-end
overflow_cast-end c = omega (arith, scan_near _ _ c.in_ok-level.ensures _ c.in-Some.ensures)

pub close-requires : goal.close-requires
close-requires c = (scan_late _ _ c.in_ok-level.ensures _ c.in-Some.ensures, close_long _ _ c.in_ok-level.ensures)

pub returns-in-Some : goal.returns-in-Some
returns-in-Some c = survey_scanned _ _ c.in_ok-level.ensures _ c.in-Some.ensures _ c.close.ensures

pub read_block-requires : goal.read_block-requires
read_block-requires c = block_asks _ _ c.in_ok-level.ensures

pub returns-in_err-block : goal.returns-in_err-block
returns-in_err-block c = back _ _ c.from_residual-in_err-block.ensures ∙ survey_bad _ _ c.in_ok-level.ensures _ c.in_err-block.ensures
