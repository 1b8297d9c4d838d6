-- A pond's entry gathered leaf by leaf: what the nodes passed so far give each pond. After the last node it is the
-- entry (`proofs/EntryLaws`).
use Rattle.std.specs.Prelude.{true, cond, List, [], ◌∷◌, ◌≡◌, ℕ, zero, suc, ◌+◌, ◌-◌, ◌*◌, ◌^◌, ◌≤◌, ◌<◌, min, max, eqb, length, get_or}
use Rattle.quad.specs.Numbers.{top_level, none}
use Rattle.table.specs.declared.Block.{Block}
use Rattle.table.specs.Table.{nodes, is_fork}
use Rattle.table.specs.Rules.{Accepted}
use Rattle.table.specs.Blocks.{block_of}
use Rattle.ponds.specs.declared.Pond.{Pond}

-- the entry of a pond that has no pixel yet: the least and the greatest of nothing
abbrev pub empty_pond : Pond
empty_pond = record { pixels = 0; top = none; bottom = 0; left = none; right = 0 }

-- an entry and a block: its pixels, its rows and its columns
unfoldable pub grown_of : Pond → Block → Pond
grown_of e b =
    let side = 2 ^ b.level in
    record {
      pixels = e.pixels + side * side;
      top = min e.top (b.row * side);
      bottom = max e.bottom (b.row * side + (side - 1));
      left = min e.left (b.column * side);
      right = max e.right (b.column * side + (side - 1));
    }

-- the entry has room for the block, which lies on a sheet
pub record Fitting (e : Pond) (b : Block) : Type 0 where
  pub room : e.pixels + 2 ^ top_level * 2 ^ top_level ≤ none
  pub level : b.level ≤ top_level
  pub column : b.column < 2 ^ top_level
  pub row : b.row < 2 ^ top_level

-- the ponds' entries after a block of number k: pond k's has the block
abbrev pub grown_at : ℕ → Block → (ℕ → Pond) → ℕ → Pond
grown_at k b E j = cond (eqb k j) (grown_of (E j) b) (E j)

-- what the first p nodes give pond k
unfoldable pub gathered : ℕ → List ℕ → List ℕ → ℕ → ℕ → Pond
gathered n T numbers k zero = empty_pond
gathered n T numbers k (suc p) = grown_at (get_or numbers p 0) (block_of n T p) (λ j. gathered n T numbers j p) k

-- the entries of `count` ponds, from pond k on, where pond k's is E k
unfoldable pub ponds_from : (ℕ → Pond) → ℕ → ℕ → List Pond
ponds_from E zero k = []
ponds_from E (suc count) k = E k ∷ ponds_from E count (k + 1)

-- what the first p nodes give ponds 1 to `count`
abbrev pub gatherings : ℕ → List ℕ → List ℕ → ℕ → ℕ → List Pond
gatherings n T numbers p count = ponds_from (λ k. gathered n T numbers k p) count 1

-- one number for each node of an accepted sheet, 0 for a fork and at most `count`
pub record Numbers (n : ℕ) (T numbers : List ℕ) (count : ℕ) : Type 0 where
  pub accepted : Accepted n T
  pub words : length numbers ≡ nodes T
  pub few : (p : ℕ) → p < nodes T → get_or numbers p 0 ≤ count
  pub forks : (p : ℕ) → p < nodes T → is_fork T p ≡ true → get_or numbers p 0 ≡ 0
