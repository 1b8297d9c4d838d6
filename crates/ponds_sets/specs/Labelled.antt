-- What the walk leaves: every black leaf is placed, two have one leader exactly when a chain joins them, and a leader
-- holds the first pixel of its set by rows. A fork that is marked has no leader under it.
use Rattle.std.specs.Prelude.{true, false, List, ◌⊎◌, ◌≡◌, ℕ, ◌<◌}
use Rattle.quad.specs.Numbers.{black}
use Rattle.table.specs.Table.{nodes, node_type, is_fork}
use Rattle.table.specs.Nodes.{left_of, top_of, level_of}
use Rattle.ponds.specs.Chain.{Water, Chain}
use Rattle.ponds.specs.Words.{word_of}
use Rattle.ponds_sets.specs.Sets.{leading, Placed, Bare, Sets}

-- fork f is marked only where no black leaf under it leads its set
abbrev pub Marks : ℕ → List ℕ → List ℕ → Type 0
Marks n T W = (f : ℕ) → f < nodes T → is_fork T f ≡ true → word_of W f ≡ leading → Bare n T W (left_of n T f) (top_of n T f) (level_of n T f)

pub record Labelled (n : ℕ) (T W : List ℕ) : Type 0 where
  pub lead : ℕ → ℕ
  pub sets : Sets n T W lead
  pub all : (i : ℕ) → Water T i → Placed T W i
  pub white : (i : ℕ) → i < nodes T → is_fork T i ≡ false → (node_type T i ≡ black → ⊥) → word_of W i ≡ 0
  pub dry : (i : ℕ) → i < nodes T → (node_type T i ≡ black → ⊥) → (word_of W i ≡ 0) ⊎ (word_of W i ≡ leading)
  pub one : (p q : ℕ) → Chain n T p q → lead p ≡ lead q
  pub marks : Marks n T W
