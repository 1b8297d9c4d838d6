-- `ponds_sides::two_sides`: the second pixels, or nothing.
use native.Mathlib.Omega.{arith}
use Rattle.ponds_sets.proofs.ShoreLaws.{two_north, two_west, two_shores, two_quiet, two_wet}
use Rattle.ponds_sides.proofs.LeafLaws.{sides_wet}
use Rattle.ponds_sides.proofs.two_sides.Goals as goal

pub returns-then-black-apart-le2 : goal.returns-then-black-apart-le2
returns-then-black-apart-le2 c =
    two_quiet c.north-n0.ensures c.north-n1.ensures c.west-w0.ensures c.west-w1.ensures c.apart.ensures.0 c.apart-2.ensures.0 (omega (arith, c.if-black-apart-le2.true))

pub next-requires : goal.next-requires
next-requires c = two_north c.north-n1.ensures (c.requires.0 (two_wet c.apart.ensures.1 c.apart-2.ensures.1 (omega (arith, c.if-black-apart-le2.false))))

pub next-requires-2 : goal.next-requires-2
next-requires-2 c =
    two_west c.north-n0.ensures c.north-n1.ensures c.next.ensures c.west-w1.ensures
    (c.requires.0 (two_wet c.apart.ensures.1 c.apart-2.ensures.1 (omega (arith, c.if-black-apart-le2.false))))

pub returns : goal.returns
returns c =
    sides_wet (two_wet c.apart.ensures.1 c.apart-2.ensures.1 (omega (arith, c.if-black-apart-le2.false)))
    (two_shores c.north-n0.ensures c.north-n1.ensures c.next.ensures c.west-w1.ensures _ c.west-w0.ensures _ c.next-2.ensures)
