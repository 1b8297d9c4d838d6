-- The marks, then the type byte: each return is one test of the definition.
use Rattle.std.proofs.Common.{◌∙◌}
use Rattle.file.specs.Reading.{record_of}
use Rattle.file_tell.proofs.RecordLaws.{back, byte_err, byte_ok, marks_err, marks_ok}
use Rattle.file_tell.proofs.read_record.Goals as goal

pub returns-in_err-marks : goal.returns-in_err-marks
unfolding record_of
returns-in_err-marks c = back _ _ c.from_residual.ensures ∙ marks_err _ _ _ _ _ c.in_err-marks.ensures

pub returns-in_err-byte_at : goal.returns-in_err-byte_at
unfolding record_of
returns-in_err-byte_at c =
    marks_ok _ _ _ _ _ _ c.in_ok-marks.ensures (back _ _ c.from_residual-in_err-byte_at.ensures ∙ byte_err _ _ _ _ c.in_err-byte_at.ensures)

pub returns-then-not-is_type : goal.returns-then-not-is_type
unfolding record_of
returns-then-not-is_type c = marks_ok _ _ _ _ _ _ c.in_ok-marks.ensures (byte_ok _ _ _ _ _ c.in_ok-byte_at.ensures (λ e. rw (← (c.from-kind.ensures ∙ e), ← c.if-not-is_type.ensures)))

pub returns : goal.returns
unfolding record_of
returns c = marks_ok _ _ _ _ _ _ c.in_ok-marks.ensures (byte_ok _ _ _ _ _ c.in_ok-byte_at.ensures (λ e. rw (← (c.from-kind.ensures ∙ e), ← c.if-not-is_type.ensures)))
