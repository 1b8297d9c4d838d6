-- The search of document 000, section 3, as the code goes through it: up to the nearest common ancestor, and back by
-- reflected or opposite moves. Inner definitions: no outside call's statement cites them.
use Rattle.std.specs.Prelude.{cond, Option, Some, None, List, [], ◌∷◌, ◌≡◌, ℕ, zero, suc, ◌+◌, ◌-◌, ◌/◌, ◌%◌, ◌^◌, ◌≤◌, ◌<◌, ltb, eqb, length}
use Rattle.answer.specs.Numbers.{level_room, with_level}
use Rattle.quad.specs.Numbers.{none}
use Rattle.quad.specs.Direction.{adj_of, reflect_of, opquad_of, common_side_of}
use Rattle.table.specs.Table.{nodes, son, is_fork}
use Rattle.table.specs.Rules.{depth_to, Accepted}
use Rattle.table.specs.Nodes.{path_to, holder, level_of}
use Rattle.neighbour.specs.declared.Climb.{Climb}
use Rattle.neighbour.specs.declared.Found.{Found}
use Rattle.neighbour.specs.Neighbour.{found_at, At}

-- no direction: the ninth, which stays
abbrev pub stay : ℕ
stay = 8

-- a direction as the code has it, where it has none in place of the ninth; and the number of what it has
abbrev pub way_to : ℕ → Option ℕ
way_to D = cond (eqb D stay) None (Some D)

abbrev pub direction_of : Option ℕ → ℕ
direction_of None = stay
direction_of (Some D) = D

-- where the block in direction D of quadrant q has its father: in this direction of q's own father
unfoldable pub onward_of : ℕ → ℕ → ℕ
onward_of D q =
    cond (ltb D 4)
    (cond (adj_of D q) D stay)
    (cond (ltb D stay) (cond (eqb q (opquad_of (D - 4))) stay (cond (eqb q (D - 4)) D (common_side_of q (D - 4)))) stay)

-- and which quadrant of that father it is
unfoldable pub mirror_of : ℕ → ℕ → ℕ
mirror_of D q = cond (ltb D 4) (reflect_of D q) (cond (ltb D stay) (opquad_of q) q)

-- a block of the sheet by its path, or none
pub data Where : Type 0 where
  off : Where
  block : List ℕ → Where

-- quadrant q of it
unfoldable pub inner : ℕ → Where → Where
inner q off = off
inner q (block ρ) = block (q ∷ ρ)

-- the block of π's size in direction D
unfoldable pub moved : ℕ → List ℕ → Where
moved D [] = cond (eqb D stay) (block []) off
moved D (q ∷ qs) = inner (mirror_of D q) (moved (onward_of D q) qs)

-- the node that holds a block, with `level` counted on from a block of that size: one more for each link that the node
-- stands higher
unfoldable pub found_in : ℕ → List ℕ → ℕ → Where → Option Found
found_in n T level off = None
found_in n T level (block ρ) = At (holder T ρ) (level + (length ρ - depth_to T n (holder T ρ)))

-- what the search asks of its caller
pub record Sought (n : ℕ) (T : List ℕ) (p level D : ℕ) : Type 0 where
  pub accepted : Accepted n T
  pub node : p < nodes T
  pub low : level + depth_to T n p ≤ n
  pub way : D ≤ stay

-- k moves down from a block, a quadrant each: in base four, the next one lowest
unfoldable pub inward : ℕ → ℕ → Where → Where
inward zero moves w = w
inward (suc k) moves w = inward k (moves / 4) (inner (moves % 4) w)

-- a climb from p, in direction D, at node q of level l: what is left to go from q, and then the moves down, lead where D
-- leads from p
pub record Climbed (n : ℕ) (T : List ℕ) (p level D : ℕ) (q l left moves : ℕ) : Type 0 where
  pub node : q < nodes T
  pub low : level ≤ l
  pub high : l + depth_to T n q ≡ level + depth_to T n p
  pub way : left ≤ stay
  pub few : moves < 4 ^ (l - level)
  pub same : moved D (path_to T n p) ≡ inward (l - level) moves (moved left (path_to T n q))

-- it has ended: nothing is left to go; or no block of the sheet lies there
unfoldable pub Ended : ℕ → List ℕ → ℕ → ℕ → ℕ → Option Climb → Type 0
Ended n T p level D None = moved D (path_to T n p) ≡ off
Ended n T p level D (Some c) = Climbed n T p level D c.node c.level stay c.moves

-- what the descent asks of its caller
pub record Descends (n : ℕ) (T : List ℕ) (c : Climb) (level : ℕ) : Type 0 where
  pub accepted : Accepted n T
  pub node : c.node < nodes T
  pub low : level ≤ c.level

-- the block that its moves lead to
abbrev pub back_from : ℕ → List ℕ → Climb → ℕ → Where
back_from n T c level = inward (c.level - level) c.moves (block (path_to T n c.node))

-- one step of the descent to a corner: a fork's son in that quadrant, and a leaf itself
abbrev pub step_to : List ℕ → ℕ → ℕ → ℕ
step_to T q p = cond (is_fork T p) (son T p q) p

-- k such steps
unfoldable pub corner_down : List ℕ → ℕ → ℕ → ℕ → ℕ
corner_down T q zero p = p
corner_down T q (suc k) p = step_to T q (corner_down T q k p)

-- the leaf at corner q of p's own block: as many steps as p has levels below it
unfoldable pub corner_under : ℕ → List ℕ → ℕ → ℕ → ℕ
corner_under n T q p = corner_down T q (level_of n T p) p

-- that leaf and its level
abbrev pub corner_at : ℕ → List ℕ → ℕ → ℕ → Found
corner_at n T q p = let m = corner_under n T q p in found_at m (level_of n T m)

-- what the search for the leaf beyond a corner asks of its caller
pub record Cornered (n : ℕ) (T : List ℕ) (p D C : ℕ) : Type 0 where
  pub accepted : Accepted n T
  pub node : p < nodes T
  pub way : D < stay
  pub corner : C < 4
  pub on : onward_of D C ≡ D

-- a node with its level beside it fits a word, and the level its room
unfoldable pub Small : Option Found → Type 0
Small None = Unit {0}
Small (Some f) = (with_level f.node f.level ≤ none) × (f.level < level_room)
