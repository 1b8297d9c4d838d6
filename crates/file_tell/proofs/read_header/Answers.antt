-- The marks, then the three bytes: each return is one test of the definition.
use Rattle.std.proofs.Common.{refl, ap, Ok, arith, get_or, ◌∙◌}
use Rattle.base.proofs.CaseLaws.{at_lt, at_ge}
use Rattle.quad.specs.Numbers.{top_level}
use Rattle.file.specs.Reading.{header_of}
use Rattle.file_tell.proofs.RecordLaws.{back, byte_err, byte_ok, marks_err, marks_ok}
use Rattle.file_tell.proofs.read_header.Goals as goal

pub returns-in_err-marks : goal.returns-in_err-marks
unfolding header_of
returns-in_err-marks c = back _ _ c.from_residual.ensures ∙ marks_err _ _ _ _ _ c.in_err-marks.ensures

pub returns-in_err-byte_at : goal.returns-in_err-byte_at
unfolding header_of
returns-in_err-byte_at c =
    marks_ok _ _ _ _ _ _ c.in_ok-marks.ensures (back _ _ c.from_residual-in_err-byte_at.ensures ∙ byte_err _ _ _ _ c.in_err-byte_at.ensures)

-- the level's test, of the byte read
pub returns-then-level-gt-TOP_LEVEL : goal.returns-then-level-gt-TOP_LEVEL
unfolding header_of
returns-then-level-gt-TOP_LEVEL c =
    marks_ok _ _ _ _ _ _ c.in_ok-marks.ensures (byte_ok _ _ _ _ _ c.in_ok-byte_at.ensures (λ e. at_lt top_level (get_or c.args.file.now 2 0) _ _ _ (omega arith) refl))

pub returns-in_err-byte_at-2 : goal.returns-in_err-byte_at-2
unfolding header_of
returns-in_err-byte_at-2 c =
    marks_ok _ _ _ _ _ _ c.in_ok-marks.ensures (byte_ok _ _ _ _ _ c.in_ok-byte_at.ensures (λ e. at_ge top_level (get_or c.args.file.now 2 0) _ _ _ (omega arith)
    (back _ _ c.from_residual-in_err-byte_at-2.ensures ∙ byte_err _ _ _ _ c.in_err-byte_at-2.ensures)))

pub returns-in_err-byte_at-3 : goal.returns-in_err-byte_at-3
unfolding header_of
returns-in_err-byte_at-3 c =
    marks_ok _ _ _ _ _ _ c.in_ok-marks.ensures (byte_ok _ _ _ _ _ c.in_ok-byte_at.ensures (λ e. at_ge top_level (get_or c.args.file.now 2 0) _ _ _ (omega arith)
    (byte_ok _ _ _ _ _ c.in_ok-byte_at-2.ensures (λ _. back _ _ c.from_residual-in_err-byte_at-3.ensures ∙ byte_err _ _ _ _ c.in_err-byte_at-3.ensures))))

pub returns : goal.returns
unfolding header_of
returns c =
    marks_ok _ _ _ _ _ _ c.in_ok-marks.ensures (byte_ok _ _ _ _ _ c.in_ok-byte_at.ensures (λ e. at_ge top_level (get_or c.args.file.now 2 0) _ _ _ (omega arith)
    (byte_ok _ _ _ _ _ c.in_ok-byte_at-2.ensures (λ _. byte_ok _ _ _ _ _ c.in_ok-byte_at-3.ensures (λ _. ap Ok (c.from-level.ensures ∙ e))))))
