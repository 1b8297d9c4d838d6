-- `raster_decode::decode`: refusals 1, 2, 2, then the six rules, then the sheet is painted.
use Rattle.table.proofs.CheckLaws.{sized_ok}
use Rattle.raster_decode.proofs.DecodeLaws.{decodes_sizes, decodes_length, decodes_faults, sheet_paintable, decodes_done}
use Rattle.raster_decode.proofs.decode.Goals as goal

pub returns-in_err-sizes : goal.returns-in_err-sizes
returns-in_err-sizes c = decodes_sizes c.args.n c.args.table.now c.args.raster.now _ _ c.from_residual.ensures c.in_err-sizes.ensures

pub raster_length-requires : goal.raster_length-requires
raster_length-requires c = (sized_ok _ _ _ c.in_ok-sizes.ensures).level

pub returns-in_err-raster_length : goal.returns-in_err-raster_length
returns-in_err-raster_length c =
    decodes_length c.args.n c.args.table.now c.args.raster.now _ _ c.from_residual-in_err-raster_length.ensures _ c.in_ok-sizes.ensures c.in_err-raster_length.ensures

pub faults-requires : goal.faults-requires
faults-requires c = sized_ok _ _ _ c.in_ok-sizes.ensures

pub returns-in_err-faults : goal.returns-in_err-faults
returns-in_err-faults c =
    decodes_faults c.args.n c.args.table.now c.args.raster.now _ _ c.from_residual-in_err-faults.ensures _ c.in_ok-sizes.ensures _ c.in_ok-raster_length.ensures c.in_err-faults.ensures

pub paint-requires : goal.paint-requires
paint-requires c =
    sheet_paintable c.args.n c.args.table.now c.args.raster.now _ _ _ c.in_ok-sizes.ensures c.in_ok-raster_length.ensures c.in_ok-faults.ensures

pub returns : goal.returns
returns c =
    decodes_done c.args.n c.args.table.now c.args.raster.now _ _ _ c.in_ok-sizes.ensures c.in_ok-raster_length.ensures c.in_ok-faults.ensures _ c.paint.ensures
