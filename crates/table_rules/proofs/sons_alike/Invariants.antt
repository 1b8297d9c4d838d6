-- `table_rules::sons_alike`: the sons from q on are as like as all four, and kind is the first one's type. The measure
-- is the sons left.
use Rattle.table.specs.Rules.{all_of, son_alike}
use Rattle.table.specs.Table.{node_type, son}
use Prim.Native.Nat.{◌-◌, ◌≤◌}
use mathlib.Core.Path.{◌≡◌}
use Rattle.table_rules.proofs.sons_alike.Given as goal

abbrev pub invariant-loop-q : goal.invariant-loop-q
invariant-loop-q l = (l.q ≤ 4) × (all_of (son_alike l.table l.p) (4 - l.q) l.q ≡ all_of (son_alike l.table l.p) 4 0) × (l.kind ≡ node_type l.table (son l.table l.p 0))
