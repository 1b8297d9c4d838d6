-- `ponds_queues::stand_pixels`: pixel by pixel, the last first.
use Prim.Native.Nat.{◌+◌}
use native.Mathlib.Omega.{arith}
use lib.ListN.{set}
use Rattle.ponds_queues.proofs.SonLaws.{part_none, pixel_room, pixel_more, south_row, second_more, part_all}
use Rattle.ponds_queues.proofs.stand_pixels.Goals as goal

pub overflow_add-y : goal.overflow_add-y
overflow_add-y c = let r = c.requires.reach in omega (arith, south_row r)

pub offset_bounds-rows-y : goal.offset_bounds-rows-y
offset_bounds-rows-y c = let r = c.requires.reach in omega (arith, south_row r)

pub bounds-rows-y : goal.bounds-rows-y
bounds-rows-y c = let r = c.requires.reach in omega (arith, south_row r)

pub stand-se-requires : goal.stand-se-requires
stand-se-requires c =
    let s = c in
    let r = s.requires.reach in
    pixel_room r (s.args.y + 1) 3 (omega arith) (part_none r) c.word_at.ensures (omega arith)

pub stand-requires : goal.stand-requires
stand-requires c =
    let s = c in
    let r = s.requires.reach in
    let three = pixel_more r (s.args.y + 1) 3 (omega arith) (part_none r) c.word_at.ensures c.stand-se.ensures (omega arith) in
    pixel_room r (s.args.y + 1) 2 (omega arith) three c.word_at-2.ensures (omega arith)

pub overflow_add-rows : goal.overflow_add-rows
overflow_add-rows c = let r = c.requires.reach in omega (arith, south_row r)

pub offset_bounds-rows-y-2 : goal.offset_bounds-rows-y-2
offset_bounds-rows-y-2 c = let r = c.requires.reach in omega (arith, south_row r)

pub bounds-rows-y-2 : goal.bounds-rows-y-2
bounds-rows-y-2 c = let r = c.requires.reach in omega (arith, south_row r)

pub offset_bounds-rows-y-3 : goal.offset_bounds-rows-y-3
offset_bounds-rows-y-3 c = let r = c.requires.reach in omega (arith, south_row r)

pub bounds-rows-y-3 : goal.bounds-rows-y-3
bounds-rows-y-3 c = let r = c.requires.reach in omega (arith, south_row r)

pub stand-ne-requires : goal.stand-ne-requires
stand-ne-requires c =
    let s = c in
    let l = c in
    let r = s.requires.reach in
    let wide = south_row r in
    let three = pixel_more r (s.args.y + 1) 3 (omega arith) (part_none r) c.word_at.ensures l.stand-se.ensures (omega arith) in
    let two = second_more r s.args.rows.now (s.args.y + 1) l.stand-se.result 2 (omega arith) three c.word_at-2.ensures (omega arith) wide c.stand.ensures in
    pixel_room r s.args.y 1 (omega arith) two c.word_at-3.ensures (omega arith)

pub stand-requires-2 : goal.stand-requires-2
stand-requires-2 c =
    let s = c in
    let l = c in
    let r = s.requires.reach in
    let wide = south_row r in
    let three = pixel_more r (s.args.y + 1) 3 (omega arith) (part_none r) c.word_at.ensures l.stand-se.ensures (omega arith) in
    let two = second_more r s.args.rows.now (s.args.y + 1) l.stand-se.result 2 (omega arith) three c.word_at-2.ensures (omega arith) wide c.stand.ensures in
    let one = pixel_more r s.args.y 1 (omega arith) two c.word_at-3.ensures c.stand-ne.ensures (omega arith) in
    pixel_room r s.args.y 0 (omega arith) one c.word_at-4.ensures (omega arith)

pub offset_bounds-rows-y-4 : goal.offset_bounds-rows-y-4
offset_bounds-rows-y-4 c = let r = c.requires.reach in omega (arith, south_row r)

pub bounds-rows-y-4 : goal.bounds-rows-y-4
bounds-rows-y-4 c = let r = c.requires.reach in omega (arith, south_row r)

pub returns : goal.returns
returns c =
    let s = c in
    let l = c in
    let m = c in
    let v = c in
    λ n F D r.
    let wide = south_row r in
    let three = pixel_more r (s.args.y + 1) 3 (omega arith) (part_none r) c.word_at.ensures l.stand-se.ensures (omega arith) in
    let two = second_more r s.args.rows.now (s.args.y + 1) l.stand-se.result 2 (omega arith) three c.word_at-2.ensures (omega arith) wide m.stand.ensures in
    let one = pixel_more r s.args.y 1 (omega arith) two c.word_at-3.ensures v.stand-ne.ensures (omega arith) in
    let zero = second_more r (set s.args.rows.now (s.args.y + 1) m.stand.result) s.args.y v.stand-ne.result 0 (omega arith) one c.word_at-4.ensures (omega arith) (omega (arith, wide)) c.stand-2.ensures in
    part_all r zero
