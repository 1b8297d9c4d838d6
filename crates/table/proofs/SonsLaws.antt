-- The four sons of a fork, and their types, by quadrant.
use mathlib.Core.List.{List}
use mathlib.Core.Path.{◌≡◌, refl}
use Prim.Native.Nat.{ℕ, ◌<◌}
use lib.ListN.{get_or}
use Rattle.quad.proofs.TreeLaws.{by_quadrant}
use Rattle.table.specs.Table.{son, node_type}
use Rattle.table.specs.Links.{four_sons, four_types}

module _ (T : List ℕ) (p : ℕ) (sons : List ℕ) (es : sons ≡ four_sons T p) where
  pub son_read : (q : ℕ) → q < 4 → get_or sons q 0 ≡ son T p q
  unfolding four_sons
  son_read = rw es (by_quadrant (λ (q : ℕ). get_or (four_sons T p) q 0 ≡ son T p q) refl refl refl refl)

  pub type_read : (types : List ℕ) → types ≡ four_types T p → (q : ℕ) → q < 4 → get_or types q 0 ≡ node_type T (get_or sons q 0)
  unfolding four_types
  type_read types et q h =
      rw (et, son_read q h) (by_quadrant (λ (k : ℕ). get_or (four_types T p) k 0 ≡ node_type T (son T p k)) refl refl refl refl q h)
