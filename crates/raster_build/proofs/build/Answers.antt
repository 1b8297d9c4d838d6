-- `raster_build::build`: refusals 1, 2, 8, then 9 by the nodes counted, then the tree is written.
use mathlib.Core.Path.{ap, ◌∙◌}
use native.Mathlib.Omega.{arith}
use Rattle.quad.specs.Tree.{size_of, tree_of}
use Rattle.quad.proofs.TreeLaws.{size_fits}
use Rattle.quad.proofs.PictureLaws.{tree_within}
use Rattle.raster.specs.Raster.{picture_of}
use Rattle.raster.proofs.BuildLaws.{builds_refused, passed_picture, builds_short, builds_done, sheet_ready}
use Rattle.raster_count.proofs.NotedLaws.{sheet_window}
use Rattle.raster_build.proofs.build.Goals as goal

pub returns-in_err-readable : goal.returns-in_err-readable
returns-in_err-readable c = builds_refused c.args.n c.args.raster.now c.args.table.now _ _ c.from_residual.ensures c.in_err-readable.ensures

pub side-requires : goal.side-requires
side-requires c = (passed_picture c.args.n c.args.raster.now c.args.table.now _ c.in_ok-readable.ensures).top

pub invariant_of-raster : goal.invariant_of-raster
invariant_of-raster c = record { colours = (passed_picture c.args.n c.args.raster.now c.args.table.now _ c.in_ok-readable.ensures).colours }

pub invariant_of-raster-2 : goal.invariant_of-raster-2
invariant_of-raster-2 c = record { picture = passed_picture c.args.n c.args.raster.now c.args.table.now _ c.in_ok-readable.ensures; wide = c.side.ensures }

pub overflow_mul-needed : goal.overflow_mul-needed
overflow_mul-needed c =
    let pic = passed_picture c.args.n c.args.raster.now c.args.table.now _ c.in_ok-readable.ensures in
    let f = picture_of c.args.n c.args.raster.now in
    record {
      fits = omega (
        arith,
        size_fits c.args.n (tree_of f c.args.n 0 0) pic.top (tree_within f c.args.n 0 0),
        c.count-nodes.ensures.nodes ∙ ap size_of (sheet_window _ _),
      );
    }

pub returns-then-table-needed : goal.returns-then-table-needed
returns-then-table-needed c =
    builds_short c.args.n c.args.raster.now c.args.table.now _ c.in_ok-readable.ensures _
    (c.count-nodes.ensures.nodes ∙ ap size_of (sheet_window _ _)) c.if-table-needed.true

pub put-requires : goal.put-requires
put-requires c =
    let counted = c.count-nodes.ensures in
    let pic = passed_picture c.args.n c.args.raster.now c.args.table.now _ c.in_ok-readable.ensures in (
      counted.noted,
      sheet_ready c.args.n c.args.raster.now c.args.table.now pic.top _ (counted.nodes ∙ ap size_of (sheet_window _ _)) c.if-table-needed.false,
    )

pub returns : goal.returns
returns c =
    builds_done c.args.n c.args.raster.now c.args.table.now _ c.in_ok-readable.ensures _
    (c.count-nodes.ensures.nodes ∙ ap size_of (sheet_window _ _)) _ _ c.if-table-needed.false
    c.put.ensures
