-- The eight neighbours of a leaf as the code goes through them (document 001, section V: CHESSBOARD-DIST). Inner
-- definitions: no outside call's statement cites them.
use Rattle.std.specs.Prelude.{true, false, Option, Some, None, List, ◌≡◌, ℕ, ◌-◌, ◌^◌, ◌<◌, min, get_or}
use Rattle.base.specs.Tab.{least}
use Rattle.quad.specs.Numbers.{white, none}
use Rattle.table.specs.Table.{nodes, node_type, is_fork}
use Rattle.table.specs.Rules.{AtLevel}
use Rattle.neighbour.specs.declared.Found.{Found}
use Rattle.neighbour.specs.Neighbour.{neighbour_found}
use Rattle.neighbour.specs.Search.{stay}
use Rattle.distance_seek.specs.Search.{offset_from, Spot}

-- the least offset of a white pixel under the node that a search in direction D ended on; off the sheet nothing is
-- white
unfoldable pub offset_found : List ℕ → ℕ → Option Found → ℕ
offset_found T D None = none
offset_found T D (Some f) = offset_from T D f.level f.node 0

-- in the neighbour of p in direction D
unfoldable pub offset_beside : ℕ → List ℕ → ℕ → ℕ → ℕ
offset_beside n T p D = offset_found T D (neighbour_found n T p D)

-- in the neighbours in the first k directions
abbrev pub offset_around : ℕ → List ℕ → ℕ → ℕ → ℕ
offset_around n T p k = least none (offset_beside n T p) k

-- the least of one less than the side of a block of level l and of the offsets in the first k of the nodes around it
abbrev pub least_around : List ℕ → ℕ → List ℕ → ℕ → ℕ
least_around T l near k = min (2 ^ l - 1) (least none (λ D. offset_from T D l (get_or near D 0) 0) k)

-- what the search in one of them asks of its caller: a node, and a fork only of level l
pub record Beside (T : List ℕ) (l w : ℕ) : Type 0 where
  pub node : w < nodes T
  pub spot : is_fork T w ≡ true → Spot T l w 0

abbrev pub AllBeside : List ℕ → ℕ → List ℕ → Type 0
AllBeside T l near = (D : ℕ) → D < stay → Beside T l (get_or near D 0)

-- one of them is white
pub record SomeWhite (T near : List ℕ) : Type 0 where
  pub way : ℕ
  pub below : way < stay
  pub is : node_type T (get_or near way 0) ≡ white

-- p, of level l, is a leaf that is not white, and has a father
pub record Inner (n : ℕ) (T : List ℕ) (p l : ℕ) : Type 0 where
  pub place : AtLevel n T p l
  pub has_father : 0 < p
  pub leaf : is_fork T p ≡ false
  pub dark : node_type T p ≡ white → ⊥
