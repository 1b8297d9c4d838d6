use Rattle.std.proofs.Common.{◌≡◌, ◌^◌}
use native.Mathlib.Omega.{arith}
use Rattle.raster.proofs.BlockLaws.{block_fits, row_place}
use Rattle.raster_fill.proofs.PaintingLaws.{rows_none, rows_more, rows_all}
use Rattle.raster_fill.proofs.fill_block.Goals as goal

pub loop-j-init : goal.loop-j-init
loop-j-init c = rows_none _ _ _ _ _ _

pub fill_row-requires : goal.fill_row-requires
fill_row-requires c =
    rw (c.side-width.ensures, c.side-across.ensures, c.loop-j.invariant.size, c.requires.2) (row_place c.requires.0 c.requires.1 c.loop-j.j (rw c.side-width.ensures at c.loop-j-test.true)).0

pub loop-j-preserved : goal.loop-j-preserved
loop-j-preserved c =
    rows_more c.args.n c.args.level c.args.x c.args.y _ _ _ _ _ (block_fits c.requires.1).0 c.loop-j.invariant (rw (c.side-width.ensures, c.side-across.ensures) at c.fill_row.ensures)

pub returns : goal.returns
returns c =
    let long : c.loop-j.j ≡ 2 ^ c.args.level = omega (arith, c.side-width.ensures) in
    rows_all _ _ _ _ _ _ _ _ long c.loop-j.invariant
