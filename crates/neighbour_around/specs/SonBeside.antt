-- The neighbour of a fork's son from the fork's own. Inner definitions: no outside call's statement cites them.
use Rattle.std.specs.Prelude.{cond, Option, Some, None, List, ℕ, ◌-◌}
use Rattle.table.specs.Table.{son, is_fork}
use Rattle.neighbour.specs.declared.Found.{Found}
use Rattle.neighbour.specs.Neighbour.{At}

-- quadrant q of what was found: a fork's son, and a leaf itself
unfoldable pub part_in : List ℕ → ℕ → Option Found → Option Found
part_in T q None = None
part_in T q (Some f) = cond (is_fork T f.node) (At (son T f.node q) (f.level - 1)) (Some f)
