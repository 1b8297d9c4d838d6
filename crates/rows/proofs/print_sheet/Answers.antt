-- `rows::print_sheet`: the nodes that were loaded fit the table, and are an accepted sheet of the level loaded.
use Rattle.std.proofs.Common.{arith, length-take}
use Rattle.file_load.proofs.LoadLaws.{loaded_fits, loaded_length, loaded_accepted}
use Rattle.rows.proofs.print_sheet.Goals as goal

pub slice_bounds-table-end : goal.slice_bounds-table-end
slice_bounds-table-end g c =
    let loads = c.load-loaded.ensures in
    omega (arith, loaded_length _ _ _ _ loads, loaded_fits _ _ _ _ _ loads c.in-Ok.is)

pub slice_bounds-print_rows-end : goal.slice_bounds-print_rows-end
slice_bounds-print_rows-end g c =
    let loads = c.load-loaded.ensures in
    simp length-take (omega (arith, loaded_length _ _ _ _ loads, loaded_fits _ _ _ _ _ loads c.in-Ok.is))

pub print_rows-requires : goal.print_rows-requires
print_rows-requires g c = loaded_accepted _ _ _ _ _ c.load-loaded.ensures c.in-Ok.is
