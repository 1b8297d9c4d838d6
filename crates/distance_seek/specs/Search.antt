-- The search under a neighbour as the code goes through it (document 001, section V: DIST-ADJACENT and DIST-CORNER as
-- one). Inner definitions: no outside call's statement cites them. Along each axis a direction takes a step, one more
-- than the move: 0 back, 1 stay, 2 forth. An offset counts pixels in that step from the near edge of the neighbour's
-- block; along an axis on which the step stays it is 0.
use Rattle.std.specs.Prelude.{true, false, cond, List, ◌≡◌, ℕ, zero, suc, ◌+◌, ◌-◌, ◌*◌, ◌/◌, ◌%◌, ◌^◌, ◌≤◌, ◌<◌, max, eqb, ltb}
use Rattle.base.specs.Tab.{least}
use Rattle.quad.specs.Numbers.{white, none, top_level}
use Rattle.quad.specs.Direction.{east_step, south_step}
use Rattle.table.specs.Table.{son, node_type, is_fork}
use Rattle.table.specs.Rules.{AtLevel}
use Rattle.neighbour.specs.Search.{stay}

-- the half of a block that lies nearer, 0 the first, 1 the second: the second where the step goes back
abbrev pub near_half : ℕ → ℕ
near_half step = cond (eqb step 0) 1 0

-- how much farther on a half lies than the nearer one, the halves being w wide: along an axis on which the step stays
-- neither is nearer
unfoldable pub farther_by : ℕ → ℕ → ℕ → ℕ
farther_by step half w = cond (eqb step 1) 0 (cond (eqb half (near_half step)) 0 w)

-- the quarter at the near edges
unfoldable pub near_quarter : ℕ → ℕ → ℕ
near_quarter east south = near_half east + 2 * near_half south

-- the next one: across where the step stays across, else down; the other two are the ones opposite, in the other order
unfoldable pub next_quarter : ℕ → ℕ → ℕ
next_quarter east south = cond (eqb east 1) (1 - near_half east + 2 * near_half south) (near_half east + 2 * (1 - near_half south))

-- where that begins, the block beginning at `at` and its farther halves at `far`: along a side, directions 0 to 3, both
-- near quarters touch it
abbrev pub next_edge : ℕ → ℕ → ℕ → ℕ
next_edge D at far = cond (ltb D 4) at far

-- the direction in which it is searched: the same along a side; beyond a corner down alone, since down it begins
-- farther on than it reaches across
pub record NextWay (D way : ℕ) : Type 0 where
  pub below : way < stay
  pub across : east_step way ≡ cond (ltb D 4) (east_step D) 1
  pub down : south_step way ≡ south_step D

-- and for the one opposite to it: beyond a corner across alone
pub record OtherWay (D way : ℕ) : Type 0 where
  pub below : way < stay
  pub across : east_step way ≡ east_step D
  pub down : south_step way ≡ cond (ltb D 4) (south_step D) 1

-- a leaf whose near edges lie at a and b: its nearest pixel is at the larger offset, and counts where it is white
abbrev pub leaf_offset : ℕ → ℕ → ℕ → ℕ
leaf_offset colour a b = cond (eqb colour white) (max a b) none

-- the least offset of a white pixel under node p of level l, whose block has its near edges at a and b; none where no
-- pixel is white
unfoldable pub offset_under : List ℕ → ℕ → ℕ → ℕ → ℕ → ℕ → ℕ → ℕ
offset_under T east south zero p a b = leaf_offset (node_type T p) a b
offset_under T east south (suc l) p a b = elim (is_fork T p) [
  | true ↦ least none (λ q. offset_under T east south l (son T p q) (a + farther_by east (q % 2) (2 ^ l)) (b + farther_by south (q / 2) (2 ^ l))) 4
  | false ↦ leaf_offset (node_type T p) a b
]

-- under quarter q of a fork p, a quarter being of level l
abbrev pub offset_in : List ℕ → ℕ → ℕ → ℕ → ℕ → ℕ → ℕ → ℕ → ℕ
offset_in T east south l p a b q = offset_under T east south l (son T p q) (a + farther_by east (q % 2) (2 ^ l)) (b + farther_by south (q / 2) (2 ^ l))

-- under node p in direction D, the near edges lying at one offset
abbrev pub offset_from : List ℕ → ℕ → ℕ → ℕ → ℕ → ℕ
offset_from T D l p at = offset_under T (east_step D) (south_step D) l p at at

-- what the search asks of its caller: p is a node of level l of a table that is accepted at some level, and no offset
-- leaves a sheet
pub record Spot (T : List ℕ) (l p at : ℕ) : Type 0 where
  pub n : ℕ
  pub place : AtLevel n T p l
  pub room : at + 2 ^ l ≤ 2 ^ top_level
