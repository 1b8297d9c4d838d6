use mathlib.Core.Path.{refl}
use native.Mathlib.Omega.{arith}
use Rattle.table.proofs.WritingLaws.{node_room, node_fits, none_put, number_room, type_room, sons_put}
use Rattle.raster_put.proofs.PutLaws.{put_wants}
use Rattle.raster_build.proofs.QuarterLaws.{fork_to_put, fork_wants, its_fork, slot_noted, quarter_to_put, quarter_put, quarter_forked, quarter_leaf}
use Rattle.raster_build.proofs.+put_fork.Goals.{then-half-eq2, else-half-eq2+then-kind, else-half-eq2+else-kind}
use Rattle.raster_build.proofs.+put_fork.Goals as goal

pub bounds-table-own : goal.bounds-table-own
bounds-table-own t c = omega (arith, node_room (fork_to_put c.args.raster.now.picture c.requires).block.ready)

pub loop-q-init : goal.loop-q-init
loop-q-init t c = none_put _ _ _

pub bounds-table-own-in-loop-q : goal.bounds-table-own-in-loop-q
bounds-table-own-in-loop-q t c =
    omega (arith, number_room (its_fork (fork_to_put c.args.raster.now.picture c.requires)) c.args.table.now (fork_to_put c.args.raster.now.picture c.requires).block.ready c.args.father c.loop-q.invariant (omega arith))

pub put_sixteen-next-requires : goal.put_sixteen-next-requires
put_sixteen-next-requires t c =
    put_wants (quarter_to_put c.args.table.now (fork_to_put c.args.raster.now.picture c.requires) c.args.father c.loop-q.invariant (omega arith) 2 c.if-half-eq2.true)

pub bounds-kinds-its : goal.bounds-kinds-its
bounds-kinds-its t c = omega (arith, slot_noted (fork_to_put c.args.raster.now.picture c.requires) c.loop-q.q (omega arith) c.if-half-eq2.false)

pub put_fork-next-requires : goal.put_fork-next-requires
put_fork-next-requires t c = (
  omega (arith, c.decreases, (fork_to_put c.args.raster.now.picture c.requires).high),
  fork_wants (quarter_forked c.args.table.now (fork_to_put c.args.raster.now.picture c.requires) c.args.father c.loop-q.invariant (omega arith) c.if-half-eq2.false c.if-kind.true),
)

pub put_leaf-requires : goal.put_leaf-requires
put_leaf-requires t c =
    node_room (quarter_to_put c.args.table.now (fork_to_put c.args.raster.now.picture c.requires) c.args.father c.loop-q.invariant (omega arith)
    _ refl).ready

pub overflow_add-next-else-kind : goal.overflow_add-next-else-kind
overflow_add-next-else-kind t c =
    omega (
      arith,
      node_fits (quarter_to_put c.args.table.now (fork_to_put c.args.raster.now.picture c.requires) c.args.father c.loop-q.invariant (omega arith)
          _ refl).ready,
    )

pub bounds-table-own-2 : goal.bounds-table-own-2
bounds-table-own-2 t c = type_room (its_fork (fork_to_put c.args.raster.now.picture c.requires)) c.args.table.now (fork_to_put c.args.raster.now.picture c.requires).block.ready c.args.father c.loop-q.invariant

pub loop-q-preserved : goal.loop-q-preserved
loop-q-preserved t c =
    let asked = fork_to_put c.args.raster.now.picture c.requires in
    elim c.if-half-eq2.branch [
      | then-half-eq2 w ↦
          rw (w.table-is, w.next-is) (quarter_put c.args.table.now asked c.args.father c.loop-q.invariant (omega arith) 2 w.if-half-eq2.true w.put_sixteen-next.ensures)
      | else-half-eq2+then-kind w ↦
          rw (w.table-is, w.next-is) (quarter_put c.args.table.now asked c.args.father c.loop-q.invariant (omega arith) _ refl w.put_fork-next.ensures)
      | else-half-eq2+else-kind w ↦
          rw (w.table-is, w.next-is) (quarter_leaf c.args.table.now asked c.args.father c.loop-q.invariant (omega arith) w.if-half-eq2.false w.if-kind.false w.put_leaf.ensures)
    ]

pub returns : goal.returns
returns t c = sons_put (its_fork (fork_to_put c.args.raster.now.picture c.requires)) c.args.table.now (fork_to_put c.args.raster.now.picture c.requires).block.ready c.args.father c.loop-q.invariant (omega arith)
