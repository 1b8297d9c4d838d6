-- `ponds_register::pass_fork`: the register has what the first q sons give; a fork of four pixels is done at once. The
-- measure is the block's level.
use Rattle.ponds_pixels.proofs.UnderLaws.{Gained}
use Rattle.ponds_register.proofs.+pass_fork.Given as goal

abbrev pub decreases-pass_fork : goal.decreases-pass_fork
decreases-pass_fork l = l.b.level

abbrev pub invariant-loop-q : goal.invariant-loop-q
invariant-loop-q l = Gained l.table l.numbers l.p l.b l.initial.reg l.q l.reg
