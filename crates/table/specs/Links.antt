-- What the check knows of a table that it has passed as far as some node: inner facts that its functions ask of their
-- callers.
use Rattle.std.specs.Prelude.{List, [], ◌∷◌, ◌≡◌, ℕ, ◌<◌}
use Rattle.table.specs.Table.{nodes, father, son, node_type}

-- the nodes below m but the root have a father below them
unfoldable pub Rising : List ℕ → ℕ → Type 0
Rising T m = (k : ℕ) → k < m → 0 < k → father T k < k

-- son q of p is a node above p whose father is p
pub record SonIn (T : List ℕ) (p q : ℕ) : Type 0 where
  pub above : p < son T p q
  pub below : son T p q < nodes T
  pub up : father T (son T p q) ≡ p

abbrev pub SonsIn : List ℕ → ℕ → Type 0
SonsIn T p = (q : ℕ) → q < 4 → SonIn T p q

-- the four sons of p, and their types
unfoldable pub four_sons : List ℕ → ℕ → List ℕ
four_sons T p = son T p 0 ∷ son T p 1 ∷ son T p 2 ∷ son T p 3 ∷ []

unfoldable pub four_types : List ℕ → ℕ → List ℕ
four_types T p = node_type T (son T p 0) ∷ node_type T (son T p 1) ∷ node_type T (son T p 2) ∷ node_type T (son T p 3) ∷ []
