-- Where two searches end alike, they end on one node and one level.
use mathlib.Core.Path.{◌≡◌, ap}
use Prim.Native.Nat.{ℕ}
use Rattle.neighbour.specs.declared.Found.{Found}
use Rattle.neighbour.specs.Neighbour.{found_at, At}

module _ {m l m' l' : ℕ} (e : At m l ≡ At m' l') where
  one_found : found_at m l ≡ found_at m' l'
  one_found = cc

  pub one_node : m ≡ m'
  one_node = ap (λ (f : Found). f.node) one_found

  pub one_level : l ≡ l'
  one_level = ap (λ (f : Found). f.level) one_found
