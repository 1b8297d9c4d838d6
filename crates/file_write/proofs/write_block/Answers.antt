-- `file_write::write_block`: a fork, or a leaf's one record.
use native.Mathlib.Omega.{arith}
use Rattle.file.proofs.WriteLaws.{record_room, kind_byte, writes_leaf}
use borrow.Author.Rules.{rules}
use Rattle.file_write.proofs.write_block.Goals as goal

pub overflow_cast-kind : goal.overflow_cast-kind
overflow_cast-kind c =
    let s = c in
    omega (arith, kind_byte _ _ _ _ s.args.file.now s.requires _ c.word_at-kind.ensures)

pub put_record-requires : goal.put_record-requires
put_record-requires c = search (record_room, rules)

pub returns : goal.returns
returns c = search (writes_leaf, rules)
