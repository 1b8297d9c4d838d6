-- `distance_fill::below` and `sons`: a fork's own word, then a son's after the other; a word that is written is right.
-- The measure is twice the level, and one more where a son's nodes around it are still to be found.
use Rattle.distance_fill.proofs.HandedLaws.{Filling}
use Prim.Native.Nat.{◌+◌, ◌*◌}
use Rattle.distance_fill.proofs.+below_sons.Given as goal

abbrev pub decreases-below : goal.decreases-below
decreases-below l = 2 * l.level + 1

abbrev pub decreases-sons : goal.decreases-sons
decreases-sons l = 2 * l.level

abbrev pub invariant-sons-loop-quadrant : goal.invariant-sons-loop-quadrant
invariant-sons-loop-quadrant l = Filling l.n l.table l.initial.out l.out l.level l.p l.quadrant
