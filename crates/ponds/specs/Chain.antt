-- When two black leaves are in one pond (document 02, No. 1): a chain of black leaves joins them in which each shares a
-- length of side with the next. It is said by geometry, of pixels beside each other; a corner does not join.
use Rattle.std.specs.Prelude.{List, ◌≡◌, ℕ, ◌<◌}
use Rattle.quad.specs.Numbers.{black}
use Rattle.table.specs.Table.{nodes, node_type}
use Rattle.neighbour.specs.Containing.{Touches}

-- p is a black leaf of the table
pub record Water (T : List ℕ) (p : ℕ) : Type 0 where
  pub node : p < nodes T
  pub wet : node_type T p ≡ black

-- p and q share a length of side: a pixel (x, y) of p lies beside one of q, in the direction of a side
pub record Shares (n : ℕ) (T : List ℕ) (p q : ℕ) : Type 0 where
  pub side : ℕ
  pub x : ℕ
  pub y : ℕ
  pub straight : side < 4
  pub touch : Touches n T p q side x y

-- a chain of black leaves, each of which shares a length of side with the next
pub data Chain (n : ℕ) (T : List ℕ) : ℕ → ℕ → Type 0 where
  end : {p : ℕ} → Water T p → Chain n T p p
  link : {p q r : ℕ} → Water T p → Shares n T p q → Chain n T q r → Chain n T p r
