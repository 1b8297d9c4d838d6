use Rattle.std.proofs.Common.{refl, arith}
use Rattle.file_read.proofs.+link_fork.Goals.{then-kind-eq-FORK+then-level-eq2, then-kind-eq-FORK+else-level-eq2, else-kind-eq-FORK}
use Rattle.table.proofs.WritingLaws.{node_room, node_fits, none_put, number_room, type_room, sons_put}
use Rattle.file_read.specs.Linking.{tree_on}
use Rattle.file_read.proofs.LinkLaws.{fork_to_link, fork_ready, linked, type_asks, kind_le, links_leaf, its_fork, deeper, son_to_link, son_forked, son_linked}
use Rattle.file_read.proofs.+link_fork.Goals as goal

pub bounds-table-own : goal.bounds-table-own
bounds-table-own t c = omega (arith, node_room (fork_to_link c.requires).block.ready)

pub loop-q-init : goal.loop-q-init
loop-q-init t c = none_put _ _ _

pub bounds-table-own-in-loop-q : goal.bounds-table-own-in-loop-q
bounds-table-own-in-loop-q t c =
    let l = c in
    let s = l in
    omega (arith, number_room (its_fork (fork_to_link s.requires)) s.args.table.now (fork_to_link s.requires).block.ready s.args.father l.loop-q.invariant (omega arith))

pub type_of-kind-requires : goal.type_of-kind-requires
type_of-kind-requires t c =
    let l = c in
    let s = l in
    type_asks (son_to_link s.args.table.now (fork_to_link s.requires) s.args.father l.loop-q.invariant (omega arith)
    _ refl)

pub link_pixels-next-requires : goal.link_pixels-next-requires
link_pixels-next-requires t c =
    let l = c in
    let s = l in
    fork_ready (son_forked s.args.table.now (fork_to_link s.requires) s.args.father l.loop-q.invariant (omega arith) 1 (omega (arith, c.if-level-eq2.true)) c.type_of-kind.ensures c.if-kind-eq-FORK.true)

pub overflow_sub-level : goal.overflow_sub-level
overflow_sub-level t c = omega (arith, deeper (fork_to_link c.requires))

pub link_fork-next-requires : goal.link_fork-next-requires
link_fork-next-requires t c =
    let l = c in
    let s = l in (
      omega (arith, s.decreases, deeper (fork_to_link s.requires)),
      fork_ready (son_forked s.args.table.now (fork_to_link s.requires) s.args.father l.loop-q.invariant (omega arith) _ refl c.type_of-kind.ensures c.if-kind-eq-FORK.true),
    )

pub overflow_cast-kind : goal.overflow_cast-kind
overflow_cast-kind t c =
    let l = c in
    let s = l in
    let b = son_to_link s.args.table.now (fork_to_link s.requires) s.args.father l.loop-q.invariant (omega arith) _ refl in
    omega (arith, kind_le b c.type_of-kind.ensures)

pub put_leaf-requires : goal.put_leaf-requires
put_leaf-requires t c =
    let l = c in
    let s = l in
    let b = son_to_link s.args.table.now (fork_to_link s.requires) s.args.father l.loop-q.invariant (omega arith) _ refl in
    node_room b.ready

pub overflow_add-next-else-kind-eq-FORK : goal.overflow_add-next-else-kind-eq-FORK
overflow_add-next-else-kind-eq-FORK t c =
    let l = c in
    let s = l in
    let b = son_to_link s.args.table.now (fork_to_link s.requires) s.args.father l.loop-q.invariant (omega arith) _ refl in
    omega (arith, node_fits b.ready)

pub loop-q-preserved : goal.loop-q-preserved
loop-q-preserved t c =
    let k = fork_to_link c.requires in
    elim c.if-kind-eq-FORK.branch [
      | then-kind-eq-FORK+then-level-eq2 w ↦
          rw (w.next-is, w.table-is) (son_linked c.args.table.now k c.args.father c.loop-q.invariant (omega arith) 1 (omega (arith, w.if-level-eq2.true)) w.link_pixels-next.ensures)
      | then-kind-eq-FORK+else-level-eq2 w ↦
          rw (w.next-is, w.table-is) (son_linked c.args.table.now k c.args.father c.loop-q.invariant (omega arith) _ refl w.link_fork-next.ensures)
      | else-kind-eq-FORK w ↦
          let b = son_to_link c.args.table.now k c.args.father c.loop-q.invariant (omega arith) _ refl in
          rw (w.next-is, w.table-is) (son_linked c.args.table.now k c.args.father c.loop-q.invariant (omega arith) _ refl
          (links_leaf b c.type_of-kind.ensures w.if-kind-eq-FORK.false w.put_leaf.ensures))
    ]

pub bounds-table-own-2 : goal.bounds-table-own-2
bounds-table-own-2 t c =
    let l = c in
    let s = l in
    type_room (its_fork (fork_to_link s.requires)) s.args.table.now (fork_to_link s.requires).block.ready s.args.father l.loop-q.invariant

pub returns : goal.returns
returns t c =
    let l = c in
    let s = l in
    linked (tree_on s.args.file.now.now s.args.level s.args.p)
    (sons_put (its_fork (fork_to_link s.requires)) s.args.table.now (fork_to_link s.requires).block.ready s.args.father l.loop-q.invariant (omega arith))
