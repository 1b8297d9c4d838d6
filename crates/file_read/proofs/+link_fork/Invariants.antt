-- `file_read::link_fork`: the father word, then each son's number and part, and the type. The measure is the level. In
-- each answer s is the start and l the loop's turn.
use Rattle.table.proofs.WritingLaws.{InTurn}
use Rattle.file_read.specs.Linking.{tree_on}
use Rattle.file_read.proofs.+link_fork.Given as goal

abbrev pub decreases-link_fork : goal.decreases-link_fork
decreases-link_fork l = l.level

abbrev pub invariant-loop-q : goal.invariant-loop-q
invariant-loop-q l =
    InTurn (tree_on l.file.now l.level l.p) l.p l.q l.next l.initial.table l.table
