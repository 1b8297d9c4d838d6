-- The words once the ponds are numbered by their leaders.
use Rattle.std.specs.Prelude.{List, ◌≡◌, ℕ, ◌≤◌, ◌<◌, length}
use Rattle.quad.specs.Numbers.{black}
use Rattle.table.specs.Table.{nodes, node_type}
use Rattle.ponds.specs.Chain.{Water, Chain}
use Rattle.ponds.specs.Words.{word_of}
use Rattle.ponds_sets.specs.Sets.{place_of}

-- one word for each node, 0 for what is not black; a black leaf's is its leader's, a leaf that a chain joins it with
-- and that begins first by rows of all such; the leaders' are 1 to the count, in the order of their places; and two
-- black leaves have one number exactly when a chain joins them
pub record Ranked (n : ℕ) (T W : List ℕ) (count : ℕ) : Type 0 where
  pub each : length W ≡ nodes T
  pub dry : (p : ℕ) → p < nodes T → (node_type T p ≡ black → ⊥) → word_of W p ≡ 0
  pub lead : ℕ → ℕ
  pub chain : (p : ℕ) → Water T p → Chain n T p (lead p)
  pub first : (p : ℕ) → Water T p → place_of n T (lead p) ≤ place_of n T p
  pub one : (p q : ℕ) → Chain n T p q → lead p ≡ lead q
  pub same : (p : ℕ) → Water T p → word_of W p ≡ word_of W (lead p)
  pub some : (p : ℕ) → Water T p → 0 < word_of W p
  pub few : (p : ℕ) → Water T p → word_of W p ≤ count
  pub order : (p q : ℕ) → Water T p → Water T q → lead p ≡ p → lead q ≡ q → place_of n T p < place_of n T q → word_of W p < word_of W q
  pub apart : (p q : ℕ) → Water T p → Water T q → word_of W p ≡ word_of W q → Chain n T p q
  pub all : (a : ℕ) → 0 < a → a ≤ count → (p : ℕ) × Water T p × (lead p ≡ p) × (word_of W p ≡ a)
