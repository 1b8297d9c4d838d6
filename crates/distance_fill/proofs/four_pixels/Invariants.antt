-- `distance_fill::four_pixels`: the fork's own word, then a pixel's after the other.
use Rattle.distance_fill.proofs.HandedLaws.{Filling}
use Rattle.distance_fill.proofs.four_pixels.Given as goal

abbrev pub invariant-loop-q : goal.invariant-loop-q
invariant-loop-q l = Filling l.n l.table l.initial.out l.out 1 l.p l.q
