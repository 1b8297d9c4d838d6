-- The pass from the root down that hands each fork the nodes around it, and what it writes. Inner definitions: no
-- outside call's statement cites them.
use Rattle.std.specs.Prelude.{true, false, List, ◌≡◌, ℕ, ◌<◌, length, get_or}
use Rattle.quad.specs.Numbers.{white}
use Rattle.table.specs.Table.{nodes, node_type, is_fork}
use Rattle.table.specs.Rules.{AtLevel}
use Rattle.table.specs.Under.{Under}
use Rattle.neighbour_around.specs.Surround.{Surrounds}
use Rattle.distance.specs.Distance.{plain_outside, distance_at}

-- a leaf that stands for the outside, which counts as black: it is not white where any leaf is not
pub record Land (T : List ℕ) (x : ℕ) : Type 0 where
  pub node : x < nodes T
  pub leaf : is_fork T x ≡ false
  pub dark : (s : ℕ) → s < nodes T → is_fork T s ≡ false → (node_type T s ≡ white → ⊥) → node_type T x ≡ white → ⊥

-- fork p, of level l
pub record Fork (n : ℕ) (T : List ℕ) (p l : ℕ) : Type 0 where
  pub place : AtLevel n T p l
  pub fork : is_fork T p ≡ true

-- and the nodes around it
pub record Handed (n : ℕ) (T : List ℕ) (p l : ℕ) (near : List ℕ) : Type 0 where
  pub at : Fork n T p l
  pub x : ℕ
  pub land : Land T x
  pub around : Surrounds n T x p near

-- the word of node s is its distance
abbrev pub Right : ℕ → List ℕ → List ℕ → ℕ → Type 0
Right n T out s = get_or out s 0 ≡ distance_at plain_outside n T s

-- the words of p and of all under it are written, p having l levels below it; a word that was right before still is
pub record Fills (n : ℕ) (T out out' : List ℕ) (l p : ℕ) : Type 0 where
  pub same : length out' ≡ length out
  pub kept : (s : ℕ) → Right n T out s → Right n T out' s
  pub done : Under T (Right n T out') l p
