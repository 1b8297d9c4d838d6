-- `file_scan::pixels_stand`: each test is one that four pixels pass. w and v tell of the second and of the first join.
use Rattle.std.proofs.Common.{arith, sym, ◌∙◌}
use Rattle.std.proofs.lemmas.Bool.{false≢true}
use borrow.Author.Tests.{eqb-true, eqb-false}
use Rattle.file_scan.proofs.PixelLaws.{short_none, first_none, second_none, third_none, pixels_there}
use Rattle.file_scan.proofs.pixels_stand.Goals.{then-four_bytes-from_le_bytes, else-four_bytes-from_le_bytes, then-four_bytes-from_le_bytes-2, else-four_bytes-from_le_bytes-2}
use Rattle.file_scan.proofs.pixels_stand.Goals as goal

pub returns-then-file-at-lt12 : goal.returns-then-file-at-lt12
returns-then-file-at-lt12 c = sym (short_none _ _ c.if-file-at-lt12.true)

pub returns-then-four_bytes-from_le_bytes-3 : goal.returns-then-four_bytes-from_le_bytes-3
returns-then-four_bytes-from_le_bytes-3 c =
    elim c.if-four_bytes-from_le_bytes-2.branch [
      | then-four_bytes-from_le_bytes-2 w ↦ elim c.if-four_bytes-from_le_bytes.branch [
        | then-four_bytes-from_le_bytes v ↦
            pixels_there _ _ _ _ _ _ c.from.ensures c.from-then-four_bytes-from_le_bytes-3.ensures c.from-then-four_bytes-from_le_bytes-3-2.ensures c.from-then-four_bytes-from_le_bytes-3-3.ensures
            _ _ _ _ _ _ c.four_bytes.ensures c.from_le_bytes.ensures v.if-four_bytes-from_le_bytes.true
            v.four_bytes-then-four_bytes-from_le_bytes.ensures v.from_le_bytes-then-four_bytes-from_le_bytes.ensures (eqb-true _ _ (sym v.value-is ∙ w.if-four_bytes-from_le_bytes-2.true))
            w.four_bytes-then-four_bytes-from_le_bytes-2.ensures w.from_le_bytes-then-four_bytes-from_le_bytes-2.ensures (eqb-true _ _ (sym w.value-is ∙ c.if-four_bytes-from_le_bytes-3.true))
            (omega (arith, c.if-file-at-lt12.false)) _ c.are_pixels.ensures
        | else-four_bytes-from_le_bytes v ↦ absurd (v.if-four_bytes-from_le_bytes.false (eqb-true _ _ (sym v.value-is ∙ w.if-four_bytes-from_le_bytes-2.true)))
      ]
      | else-four_bytes-from_le_bytes-2 w ↦ absurd (false≢true (sym w.if-four_bytes-from_le_bytes-2.false ∙ sym w.value-is ∙ c.if-four_bytes-from_le_bytes-3.true))
    ]

pub returns-else-four_bytes-from_le_bytes-3 : goal.returns-else-four_bytes-from_le_bytes-3
returns-else-four_bytes-from_le_bytes-3 c =
    rw c.if-four_bytes-from_le_bytes-3.false (elim c.if-four_bytes-from_le_bytes-2.branch [
      | then-four_bytes-from_le_bytes-2 w ↦ elim c.if-four_bytes-from_le_bytes.branch [
        | then-four_bytes-from_le_bytes v ↦
            sym (third_none _ _ _ _ w.four_bytes-then-four_bytes-from_le_bytes-2.ensures w.from_le_bytes-then-four_bytes-from_le_bytes-2.ensures (eqb-false _ _ (sym w.value-is ∙ c.if-four_bytes-from_le_bytes-3.false)))
        | else-four_bytes-from_le_bytes v ↦ absurd (v.if-four_bytes-from_le_bytes.false (eqb-true _ _ (sym v.value-is ∙ w.if-four_bytes-from_le_bytes-2.true)))
      ]
      | else-four_bytes-from_le_bytes-2 w ↦ elim c.if-four_bytes-from_le_bytes.branch [
        | then-four_bytes-from_le_bytes v ↦
            sym (second_none _ _ _ _ v.four_bytes-then-four_bytes-from_le_bytes.ensures v.from_le_bytes-then-four_bytes-from_le_bytes.ensures (eqb-false _ _ (sym v.value-is ∙ w.if-four_bytes-from_le_bytes-2.false)))
        | else-four_bytes-from_le_bytes v ↦ sym (first_none _ _ _ _ c.four_bytes.ensures c.from_le_bytes.ensures v.if-four_bytes-from_le_bytes.false)
      ]
    ])
