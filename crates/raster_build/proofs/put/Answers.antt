-- `raster_build::put`: a leaf, four pixels, sixteen, or a fork.
use mathlib.Core.Path.{refl}
use native.Mathlib.Omega.{arith}
use Rattle.table.proofs.WritingLaws.{node_room, type_put}
use Rattle.raster_count.proofs.NotedLaws.{sheet_kind}
use Rattle.raster_build.proofs.QuarterLaws.{sheet_to_put, fork_wants, sheet_forked}
use Rattle.raster_build.proofs.put.Goals as goal

pub put_leaf-requires : goal.put_leaf-requires
put_leaf-requires c = node_room c.requires.1

pub returns-then-kind : goal.returns-then-kind
returns-then-kind c = type_put _ _ 0 _ _ _ _ (sheet_kind _ _ _ c.requires.0) c.if-kind.true refl c.put_leaf.ensures

pub put_fork-requires : goal.put_fork-requires
put_fork-requires c = fork_wants (sheet_forked (sheet_to_put c.args.raster.now.picture c.requires) c.if-kind.false (λ e. absurd (omega arith)) (λ e. absurd (omega arith)) _ c.slots-slots.ensures)
