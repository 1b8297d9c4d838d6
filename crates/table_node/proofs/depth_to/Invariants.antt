-- `table_node::depth_to` climbs: the links passed and those from q on are the whole depth, and q is at most p.
use Rattle.table.specs.Rules.{depth_to}
use Prim.Native.Nat.{◌+◌, ◌-◌, ◌≤◌}
use mathlib.Core.Path.{◌≡◌}
use Rattle.table_node.proofs.depth_to.Given as goal

abbrev pub invariant-loop-k : goal.invariant-loop-k
invariant-loop-k l = (l.q ≤ l.p) × (l.k + depth_to l.table (l.n - l.k) l.q ≡ depth_to l.table l.n l.p)
