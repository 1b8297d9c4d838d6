use mathlib.Core.Path.{◌≡◌}
use Prim.Native.Nat.{◌<◌}
use native.Mathlib.Omega.{arith}
use lib.ListN.{length, take}
use Rattle.std.proofs.lemmas.List.{length-take-le, get_or-take}
use Rattle.ponds_ranks.proofs.CountLaws.{rowings_none, rowings_row, rowings_more, rowings_all}
use Rattle.ponds_ranks.proofs.count_rows.Goals as goal

pub loop-first-init : goal.loop-first-init
loop-first-init c = rowings_none

pub count_row-count-requires : goal.count_row-count-requires
count_row-count-requires c =
    let e : length (take c.args.side c.args.rows.now) ≡ c.args.side = length-take-le _ _ (omega (arith, c.requires.within, c.told-rows)) in
    let l : c.loop-first.first-index < c.args.side = omega (arith, e, c.loop-first-test.true) in
    rowings_row c.loop-first.invariant l _ (get_or-take _ _ _ 0 l) c.requires

pub loop-first-preserved : goal.loop-first-preserved
loop-first-preserved c =
    let e : length (take c.args.side c.args.rows.now) ≡ c.args.side = length-take-le _ _ (omega (arith, c.requires.within, c.told-rows)) in
    let l : c.loop-first.first-index < c.args.side = omega (arith, e, c.loop-first-test.true) in
    rowings_more c.loop-first.invariant l _ (get_or-take _ _ _ 0 l) _ _ c.count_row-count.ensures

pub returns : goal.returns
returns c =
    let e : length (take c.args.side c.args.rows.now) ≡ c.args.side = length-take-le _ _ (omega (arith, c.requires.within, c.told-rows)) in
    rowings_all c.loop-first.invariant (omega (arith, e, c.loop-first.auto.first-index-end)) (omega (arith, e, c.loop-first-test.false))
