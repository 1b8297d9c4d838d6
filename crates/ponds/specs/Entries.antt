-- A pond's entry in the register (document 02, No. 1): pixel count, first and last row, first and last column, over the
-- pixels of the whole raster that have the pond's number.
use Rattle.std.specs.Prelude.{cond, List, [], ◌∷◌, ℕ, zero, suc, ◌+◌, ◌/◌, ◌%◌, ◌^◌, eqb, get_or}
use Rattle.base.specs.Tab.{sum, least, greatest}
use Rattle.quad.specs.Numbers.{none}
use Rattle.quad.specs.Block.{path_of}
use Rattle.table.specs.Nodes.{holder}
use Rattle.ponds.specs.declared.Pond.{Pond}

-- the leaf of pixel i, by rows
unfoldable pub leaf_at : ℕ → List ℕ → ℕ → ℕ
leaf_at n T i = holder T (path_of n (i % 2 ^ n) (i / 2 ^ n))

-- the number at pixel i: its leaf's
abbrev pub number_at : ℕ → List ℕ → List ℕ → ℕ → ℕ
number_at n T numbers i = get_or numbers (leaf_at n T i) 0

-- v where pixel i has number k, else w
abbrev pub if_at : ℕ → List ℕ → List ℕ → ℕ → ℕ → ℕ → ℕ → ℕ
if_at n T numbers k i v w = cond (eqb (number_at n T numbers i) k) v w

-- the entry of pond k
unfoldable pub entry_of : ℕ → List ℕ → List ℕ → ℕ → Pond
entry_of n T numbers k = record {
  pixels = sum (λ i. if_at n T numbers k i 1 0) (4 ^ n);
  top = least none (λ i. if_at n T numbers k i (i / 2 ^ n) none) (4 ^ n);
  bottom = greatest (λ i. if_at n T numbers k i (i / 2 ^ n) 0) (4 ^ n);
  left = least none (λ i. if_at n T numbers k i (i % 2 ^ n) none) (4 ^ n);
  right = greatest (λ i. if_at n T numbers k i (i % 2 ^ n) 0) (4 ^ n);
}

-- the entries of `count` ponds, from pond k on
unfoldable pub entries_from : ℕ → List ℕ → List ℕ → ℕ → ℕ → List Pond
entries_from n T numbers zero k = []
entries_from n T numbers (suc count) k = entry_of n T numbers k ∷ entries_from n T numbers count (k + 1)

-- the entries of ponds 1 to `count`
abbrev pub entries : ℕ → List ℕ → List ℕ → ℕ → List Pond
entries n T numbers count = entries_from n T numbers count 1

-- the five words of each entry
unfoldable pub words_of : List Pond → List ℕ
words_of [] = []
words_of (e ∷ es) = e.pixels ∷ e.top ∷ e.bottom ∷ e.left ∷ e.right ∷ words_of es
