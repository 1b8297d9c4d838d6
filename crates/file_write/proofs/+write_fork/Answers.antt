use native.Mathlib.Omega.{arith}
use lib.ListN.{length}
use Rattle.table.proofs.TypeLaws.{told_fork}
use Rattle.file.proofs.WriteLaws.{record_room, kind_byte, writes_leaf, deep, lower, none_wrote, son_ok_lem, son_room, pixels_ok, pixels_here, son_wrote, all_wrote}
use Prim.Native.Nat.{◌+◌, ◌≤◌}
use Rattle.file_write.proofs.+write_fork.Goals.{then-kind-eq-FORK+then-level-eq2, then-kind-eq-FORK+else-level-eq2, else-kind-eq-FORK}
use Rattle.file_write.proofs.+write_fork.Goals as goal

pub put_record-requires : goal.put_record-requires
put_record-requires t c = record_room _ _ _ _ c.args.file.now c.requires.0

pub loop-q-init : goal.loop-q-init
loop-q-init t c = none_wrote _ _ _ _ _

pub word_at-kind-requires : goal.word_at-kind-requires
word_at-kind-requires t c =
    let s = c in
    let l = c.loop-q in
    ((son_ok_lem _ _ _ _ s.args.file.now s.requires.0 s.requires.1 _ c.put_record.ensures l.q l.next l.file (omega arith) l.invariant _ c.word_at-son.ensures).place.node, omega arith)

pub write_pixels-next-requires : goal.write_pixels-next-requires
write_pixels-next-requires t c =
    let m = c in
    let s = c in
    let l = c.loop-q in
    pixels_ok _ _ _ _ s.args.file.now s.requires.0 s.requires.1 _ c.put_record.ensures l.q l.next l.file (omega arith) l.invariant _ m.word_at-son.ensures (told_fork s.args.table.now.now m.word_at-son.result _ c.word_at-kind.ensures c.if-kind-eq-FORK.true) c.if-level-eq2.true

pub overflow_sub-level : goal.overflow_sub-level
overflow_sub-level t c =
    let s = c in
    omega (arith, deep _ _ _ _ s.args.file.now s.requires.0 s.requires.1)

pub write_fork-next-requires : goal.write_fork-next-requires
write_fork-next-requires t c =
    let m = c in
    let s = c in
    let l = c.loop-q in (
      lower _ _ _ _ s.args.file.now s.requires.0 s.requires.1 _ s.decreases,
      (
        son_ok_lem _ _ _ _ s.args.file.now s.requires.0 s.requires.1 _ c.put_record.ensures l.q l.next l.file (omega arith) l.invariant _ m.word_at-son.ensures,
        told_fork s.args.table.now.now m.word_at-son.result _ c.word_at-kind.ensures c.if-kind-eq-FORK.true,
      ),
    )

pub overflow_cast-kind : goal.overflow_cast-kind
overflow_cast-kind t c =
    let s = c in
    let l = c.loop-q in
    let ok = son_ok_lem _ _ _ _ s.args.file.now s.requires.0 s.requires.1 _ c.put_record.ensures l.q l.next l.file (omega arith) l.invariant _ c.word_at-son.ensures in
    omega (arith, kind_byte _ _ _ _ l.file ok _ c.word_at-kind.ensures)

pub put_record-requires-else-kind-eq-FORK : goal.put_record-requires-else-kind-eq-FORK
put_record-requires-else-kind-eq-FORK t c =
    let s = c in
    let l = c.loop-q in
    record_room _ _ _ _ l.file (son_ok_lem _ _ _ _ s.args.file.now s.requires.0 s.requires.1 _ c.put_record.ensures l.q l.next l.file (omega arith) l.invariant _ c.word_at-son.ensures)

pub overflow_add-next-else-kind-eq-FORK : goal.overflow_add-next-else-kind-eq-FORK
overflow_add-next-else-kind-eq-FORK t c =
    let s = c in
    let l = c.loop-q in
    let room : l.next + 3 ≤ length s.args.file.now = son_room _ _ _ _ s.args.file.now s.requires.0 s.requires.1 _ c.put_record.ensures l.q l.next l.file (omega arith) l.invariant in
    omega (arith, room, s.well_formed)

pub loop-q-preserved : goal.loop-q-preserved
loop-q-preserved t c =
    let s = c in
    let l = c.loop-q in
    elim c.if-kind-eq-FORK.branch [
      | then-kind-eq-FORK+then-level-eq2 w ↦
          let wr = pixels_here _ _ _ _ s.args.file.now s.requires.0 s.requires.1 _ s.put_record.ensures l.q l.next l.file (omega arith) l.invariant _ _ _ w.if-level-eq2.true w.write_pixels-next.ensures in
          rw (w.next-is, w.file-is) (son_wrote _ _ _ _ s.args.file.now s.requires.0 s.requires.1 _ s.put_record.ensures l.q l.next l.file (omega arith) l.invariant _ _ _ c.word_at-son.ensures wr)
      | then-kind-eq-FORK+else-level-eq2 w ↦
          rw (w.next-is, w.file-is) (son_wrote _ _ _ _ s.args.file.now s.requires.0 s.requires.1 _ s.put_record.ensures l.q l.next l.file (omega arith) l.invariant _ _ _ c.word_at-son.ensures w.write_fork-next.ensures)
      | else-kind-eq-FORK w ↦
          let ok = son_ok_lem _ _ _ _ s.args.file.now s.requires.0 s.requires.1 _ s.put_record.ensures l.q l.next l.file (omega arith) l.invariant _ c.word_at-son.ensures in
          let wr = writes_leaf _ _ _ _ l.file ok _ c.word_at-kind.ensures _ w.put_record-else-kind-eq-FORK.ensures w.if-kind-eq-FORK.false in
          rw (w.next-is, w.file-is) (son_wrote _ _ _ _ s.args.file.now s.requires.0 s.requires.1 _ s.put_record.ensures l.q l.next l.file (omega arith) l.invariant _ _ _ c.word_at-son.ensures wr)
    ]

pub returns : goal.returns
returns t c =
    let s = c in
    let l = c.loop-q in
    all_wrote _ _ _ _ s.args.file.now s.requires.0 s.requires.1 _ c.put_record.ensures l.q l.next l.file (omega arith) l.invariant
