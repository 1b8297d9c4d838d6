-- `ponds_pixels::pass_four`: pixel by pixel.
use native.Mathlib.Omega.{arith}
use Rattle.ponds_pixels.proofs.UnderLaws.{gained_none, parted, pixel_passing, pixel_gained, gained_all}
use Rattle.ponds_pixels.proofs.pass_four.Goals as goal

pub part-requires : goal.part-requires
part-requires c = (parted c.requires.0 c.requires.1, omega arith)

pub pass_number-requires : goal.pass_number-requires
pass_number-requires c =
    let z = c.requires in
    pixel_passing z.1 0 (omega arith) _ c.part.ensures _ gained_none _ z.2.0 z.0

pub part-requires-2 : goal.part-requires-2
part-requires-2 c =
    let s = c in
    (parted s.requires.0 s.requires.1, omega arith)

pub pass_number-requires-2 : goal.pass_number-requires-2
pass_number-requires-2 c =
    let z = c.requires in
    let one = pixel_gained z.1 0 (omega arith) _ c.part.ensures _ gained_none _ z.2.0 _ c.pass_number.ensures in
    pixel_passing z.1 1 (omega arith) _ c.part-2.ensures _ one _ z.2.1 z.0

pub part-requires-3 : goal.part-requires-3
part-requires-3 c =
    let s = c in
    (parted s.requires.0 s.requires.1, omega arith)

pub pass_number-requires-3 : goal.pass_number-requires-3
pass_number-requires-3 c =
    let z = c.requires in
    let one = pixel_gained z.1 0 (omega arith) _ c.part.ensures _ gained_none _ z.2.0 _ c.pass_number.ensures in
    let two = pixel_gained z.1 1 (omega arith) _ c.part-2.ensures _ one _ z.2.1 _ c.pass_number-2.ensures in
    pixel_passing z.1 2 (omega arith) _ c.part-3.ensures _ two _ z.2.2 z.0

pub part-requires-4 : goal.part-requires-4
part-requires-4 c =
    let s = c in
    (parted s.requires.0 s.requires.1, omega arith)

pub pass_number-requires-4 : goal.pass_number-requires-4
pass_number-requires-4 c =
    let z = c.requires in
    let one = pixel_gained z.1 0 (omega arith) _ c.part.ensures _ gained_none _ z.2.0 _ c.pass_number.ensures in
    let two = pixel_gained z.1 1 (omega arith) _ c.part-2.ensures _ one _ z.2.1 _ c.pass_number-2.ensures in
    let three = pixel_gained z.1 2 (omega arith) _ c.part-3.ensures _ two _ z.2.2 _ c.pass_number-3.ensures in
    pixel_passing z.1 3 (omega arith) _ c.part-4.ensures _ three _ z.2.3 z.0

pub returns : goal.returns
returns c =
    let z = c.requires in
    let one = pixel_gained z.1 0 (omega arith) _ c.part.ensures _ gained_none _ z.2.0 _ c.pass_number.ensures in
    let two = pixel_gained z.1 1 (omega arith) _ c.part-2.ensures _ one _ z.2.1 _ c.pass_number-2.ensures in
    let three = pixel_gained z.1 2 (omega arith) _ c.part-3.ensures _ two _ z.2.2 _ c.pass_number-3.ensures in
    let four = pixel_gained z.1 3 (omega arith) _ c.part-4.ensures _ three _ z.2.3 _ c.pass_number-4.ensures in
    gained_all z.1 4 _ (omega arith) (omega arith) four
