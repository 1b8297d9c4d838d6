-- `file_write::write_pixels`: five records, each right behind the one before.
use Rattle.std.proofs.Common.{arith}
use Rattle.file.proofs.WriteLaws.{types_asked, types_told, types_low, pixels_wrote}
use Rattle.file_write.proofs.write_pixels.Goals as goal

pub four_types-requires : goal.four_types-requires
four_types-requires c = types_asked _ _ c.requires.0

pub overflow_cast-nw : goal.overflow_cast-nw
overflow_cast-nw c = omega (arith, types_low _ _ c.requires.0 _ c.four_types.ensures)

pub overflow_cast-ne : goal.overflow_cast-ne
overflow_cast-ne c = omega (arith, types_low _ _ c.requires.0 _ c.four_types.ensures)

pub overflow_cast-sw : goal.overflow_cast-sw
overflow_cast-sw c = omega (arith, types_low _ _ c.requires.0 _ c.four_types.ensures)

pub overflow_cast-se : goal.overflow_cast-se
overflow_cast-se c = omega (arith, types_low _ _ c.requires.0 _ c.four_types.ensures)

pub returns : goal.returns
returns c =
    let t = types_told _ _ c.requires.0 _ c.four_types.ensures in
    pixels_wrote _ _ c.requires.0 _ _ _ _ _ _ _ _ _ _ _ t.0 t.1 t.2 t.3
    c.put_record.ensures c.put_record-2.ensures c.put_record-3.ensures c.put_record-4.ensures c.put_record-5.ensures
