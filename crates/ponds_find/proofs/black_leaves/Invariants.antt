-- `ponds_find::black_leaves`: the count is that of the nodes before p.
use Prim.Native.Nat.{◌≤◌}
use mathlib.Core.Path.{◌≡◌}
use Rattle.ponds_find.proofs.BlackLaws.{black_to}
use Rattle.ponds_find.proofs.black_leaves.Given as goal

abbrev pub invariant-loop-p : goal.invariant-loop-p
invariant-loop-p l = (l.count ≤ l.p) × (l.count ≡ black_to l.table l.p)
