-- Each return is one test of the definition: absent or wrong, the first mark byte and then the second.
use Rattle.std.proofs.Common.{refl, ◌∙◌}
use Rattle.file.specs.Reading.{marks_of}
use Rattle.file_tell.proofs.RecordLaws.{back, byte_err, mark_wrong, mark_right}
use Rattle.file_tell.proofs.marks.Goals as goal

pub returns-in_err-byte_at : goal.returns-in_err-byte_at
unfolding marks_of
returns-in_err-byte_at c = back _ _ c.from_residual.ensures ∙ byte_err _ _ _ _ c.in_err-byte_at.ensures

pub returns-then-branch-ne-MARK : goal.returns-then-branch-ne-MARK
unfolding marks_of
returns-then-branch-ne-MARK c = mark_wrong _ _ _ _ _ c.in_ok-byte_at.ensures c.if-branch-ne-MARK.true

pub returns-in_err-byte_at-2 : goal.returns-in_err-byte_at-2
unfolding marks_of
returns-in_err-byte_at-2 c =
    mark_right _ _ _ _ _ _ c.in_ok-byte_at.ensures c.if-branch-ne-MARK.false
    (back _ _ c.from_residual-in_err-byte_at-2.ensures ∙ byte_err _ _ _ _ c.in_err-byte_at-2.ensures)

pub returns-then-branch-second : goal.returns-then-branch-second
unfolding marks_of
returns-then-branch-second c =
    mark_right _ _ _ _ _ _ c.in_ok-byte_at.ensures c.if-branch-ne-MARK.false (mark_wrong _ _ _ _ _ c.in_ok-byte_at-2.ensures c.if-branch-second.true)

pub returns : goal.returns
unfolding marks_of
returns c =
    mark_right _ _ _ _ _ _ c.in_ok-byte_at.ensures c.if-branch-ne-MARK.false (mark_right _ _ _ _ _ _ c.in_ok-byte_at-2.ensures c.if-branch-second.false refl)
