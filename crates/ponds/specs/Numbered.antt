-- The numbers of a sheet's ponds (document 02, No. 1): one for each pond, from 1 in the order of their first pixel by
-- rows.
use Rattle.std.specs.Prelude.{List, ◌≡◌, ℕ, ◌^◌, ◌≤◌, ◌<◌, length, get_or}
use Rattle.quad.specs.Numbers.{black}
use Rattle.table.specs.Table.{nodes, node_type}
use Rattle.ponds.specs.Chain.{Water, Chain}
use Rattle.ponds.specs.Entries.{number_at}

-- one word for each node, 0 for white leaves and forks; two black leaves have one number exactly when a chain joins
-- them; before a pixel of a pond comes one of each pond of a lower number; and the numbers are those from 1 to the
-- count
pub record Numbered (n : ℕ) (T numbers : List ℕ) (count : ℕ) : Type 0 where
  pub each : length numbers ≡ nodes T
  pub dry : (p : ℕ) → p < nodes T → (node_type T p ≡ black → ⊥) → get_or numbers p 0 ≡ 0
  pub some : (p : ℕ) → Water T p → 0 < get_or numbers p 0
  pub few : (p : ℕ) → Water T p → get_or numbers p 0 ≤ count
  pub one : (p q : ℕ) → Chain n T p q → get_or numbers p 0 ≡ get_or numbers q 0
  pub apart : (p q : ℕ) → Water T p → Water T q → get_or numbers p 0 ≡ get_or numbers q 0 → Chain n T p q
  pub order : (i a : ℕ) → i < 4 ^ n → 0 < a → a < number_at n T numbers i → (j : ℕ) × (j < i) × (number_at n T numbers j ≡ a)
  pub all : (a : ℕ) → 0 < a → a ≤ count → (p : ℕ) × Water T p × (get_or numbers p 0 ≡ a)
