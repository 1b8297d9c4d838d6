-- `file_write::write_fork`: its own record, and then its sons' blocks, each right behind the one before. The measure is
-- the level.
use Rattle.file.specs.Writing.{SonsWrote}
use Prim.Native.Nat.{◌+◌}
use Rattle.file_write.proofs.+write_fork.Given as goal

abbrev pub decreases-write_fork : goal.decreases-write_fork
decreases-write_fork l = l.level

abbrev pub invariant-loop-q : goal.invariant-loop-q
invariant-loop-q l = SonsWrote l.table.now l.level l.p l.q (l.at + 3) l.initial.file l.file l.next
