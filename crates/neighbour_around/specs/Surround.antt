-- The eight neighbours of a fork's son from the fork's own eight. Inner definitions: no outside call's statement cites
-- them.
use Rattle.std.specs.Prelude.{false, cond, Option, Some, None, List, ◌≡◌, ℕ, ◌<◌, eqb, get_or}
use Rattle.base.specs.Tab.{tab}
use Rattle.table.specs.Table.{nodes, son, is_fork}
use Rattle.neighbour.specs.declared.Found.{Found}
use Rattle.neighbour.specs.Neighbour.{neighbour_found}
use Rattle.neighbour.specs.Search.{stay, onward_of, mirror_of}

-- what was found as one number: its node, and x where nothing was
unfoldable pub node_or : ℕ → Option Found → ℕ
node_or x None = x
node_or x (Some f) = f.node

-- quadrant k of node w: a fork's son, and a leaf itself
unfoldable pub part_of : List ℕ → ℕ → ℕ → ℕ
part_of T k w = cond (is_fork T w) (son T w k) w

-- eight nodes of the table
abbrev pub InNodes : List ℕ → List ℕ → Type 0
InNodes T near = (D : ℕ) → D < stay → get_or near D 0 < nodes T

-- the node in direction D of p's son in quadrant q, where `near` are those around p: a brother, or a part of one of
-- them
unfoldable pub son_near : List ℕ → ℕ → ℕ → List ℕ → ℕ → ℕ
son_near T p q near D = cond (eqb (onward_of D q) stay) (son T p (mirror_of D q)) (part_of T (mirror_of D q) (get_or near (onward_of D q) 0))

unfoldable pub son_surround : List ℕ → ℕ → ℕ → List ℕ → List ℕ
son_surround T p q near = tab (son_near T p q near) stay

-- the nodes around p in the eight directions; x, a leaf, stands for what is off the sheet
pub record Surrounds (n : ℕ) (T : List ℕ) (x p : ℕ) (near : List ℕ) : Type 0 where
  pub off : x < nodes T
  pub leaf : is_fork T x ≡ false
  pub each : (D : ℕ) → D < stay → get_or near D 0 ≡ node_or x (neighbour_found n T p D)
