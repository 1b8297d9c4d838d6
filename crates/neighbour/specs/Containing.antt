-- 'The smallest node with side at least P's which contains that block' (document 01, 'Directions and neighbours'), word
-- for word: what the theorems prove of the node that the calls' definitions name by `holder`.
use Rattle.std.specs.Prelude.{List, [], ◌∷◌, ◌≡◌, ℕ, ◌+◌, ◌-◌, ◌*◌, ◌/◌, ◌^◌, ◌≤◌, ◌<◌, get_or}
use Rattle.quad.specs.Block.{column, row}
use Rattle.quad.specs.Direction.{east_step, south_step}
use Rattle.table.specs.Table.{nodes}
use Rattle.table.specs.Rules.{depth_to}
use Rattle.table.specs.Nodes.{path_to, side_of, left_of, top_of}

-- the block (x, y) of depth d lies in the block (x', y') of depth d', which is as large, or larger: 2 ^ (d - d') blocks
-- of depth d lie along its side
pub record Inside (d x y d' x' y' : ℕ) : Type 0 where
  pub large : d' ≤ d
  pub across : x / 2 ^ (d - d') ≡ x'
  pub down : y / 2 ^ (d - d') ≡ y'

-- the block (x, y) of depth d lies in the block of node m
pub record Contains (n : ℕ) (T : List ℕ) (m d x y : ℕ) : Type 0 where
  pub node : m < nodes T
  pub inside : Inside d x y (depth_to T n m) (column (path_to T n m)) (row (path_to T n m))

-- containing, said in pixels: the block (x, y) of depth d is 2 ^ (n - d) pixels wide, and does not reach beyond the
-- four sides of m's block
pub record Covers (n : ℕ) (T : List ℕ) (m d x y : ℕ) : Type 0 where
  pub west : left_of n T m ≤ x * 2 ^ (n - d)
  pub east : (x + 1) * 2 ^ (n - d) ≤ left_of n T m + side_of n T m
  pub north : top_of n T m ≤ y * 2 ^ (n - d)
  pub south : (y + 1) * 2 ^ (n - d) ≤ top_of n T m + side_of n T m

-- and every other node that contains it is larger
pub record Smallest (n : ℕ) (T : List ℕ) (m d x y : ℕ) : Type 0 where
  pub contains : Contains n T m d x y
  pub others : (k : ℕ) → Contains n T k d x y → (k ≡ m → ⊥) → side_of n T m < side_of n T k

-- the direction that leads back
unfoldable pub opposite : ℕ → ℕ
opposite D = get_or (2 ∷ 3 ∷ 0 ∷ 1 ∷ 7 ∷ 6 ∷ 5 ∷ 4 ∷ []) D D

-- the pixel (x, y) is one of p's, and the pixel just beyond it in direction D is one of m's: for a side D, the two
-- share a length of that side
pub record Touches (n : ℕ) (T : List ℕ) (p m D x y : ℕ) : Type 0 where
  pub east : 0 < x + east_step D
  pub south : 0 < y + south_step D
  pub here : Contains n T p n x y
  pub beyond : Contains n T m n (x + east_step D - 1) (y + south_step D - 1)
