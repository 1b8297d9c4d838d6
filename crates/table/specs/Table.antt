-- A node table is a list of words, six for each node: father, NW, NE, SW, SE, type (document 01, 'Sheets and node
-- tables'). Proofs read it by these names alone.
use Rattle.std.specs.Prelude.{Bool, List, ℕ, ◌+◌, ◌*◌, ◌/◌, eqb, length, get_or}
use Rattle.quad.specs.Numbers.{fork_type}

-- word j of node p
abbrev pub word : List ℕ → ℕ → ℕ → ℕ
word T p j = get_or T (6 * p + j) 0

-- the node count N
abbrev pub nodes : List ℕ → ℕ
nodes T = length T / 6

abbrev pub father : List ℕ → ℕ → ℕ
father T p = word T p 0

-- the son in quadrant q: 0 NW, 1 NE, 2 SW, 3 SE
abbrev pub son : List ℕ → ℕ → ℕ → ℕ
son T p q = word T p (1 + q)

abbrev pub node_type : List ℕ → ℕ → ℕ
node_type T p = word T p 5

abbrev pub is_fork : List ℕ → ℕ → Bool
is_fork T p = eqb (node_type T p) fork_type
