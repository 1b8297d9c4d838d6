-- `table_rules::first_fault`: what is left from p on has the first fault of all, and the nodes below p rise.
use Rattle.table.specs.Rules.{fault_from, faults_of}
use Rattle.table.specs.Links.{Rising}
use Rattle.table.specs.Table.{nodes}
use Prim.Native.Nat.{◌-◌}
use mathlib.Core.Path.{◌≡◌}
use Rattle.table_rules.proofs.first_fault.Given as goal

abbrev pub invariant-loop-p : goal.invariant-loop-p
invariant-loop-p l = (l.count ≡ nodes l.table) × Rising l.table l.p × (fault_from l.n l.table (nodes l.table - l.p) l.p ≡ faults_of l.n l.table)
