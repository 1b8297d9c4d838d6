-- What the leaves in and under a node give each pond. It is gathered from the root down, and a leaf's block is a
-- quadrant of its father's, so nothing climbs.
use Rattle.std.specs.Prelude.{cond, List, ◌≡◌, ℕ, zero, suc, ◌+◌, ◌-◌, ◌*◌, ◌/◌, ◌%◌, ◌^◌, ◌≤◌, ◌<◌, min, max, eqb, length, get_or}
use Rattle.quad.specs.Numbers.{top_level, none}
use Rattle.table.specs.declared.Block.{Block}
use Rattle.table.specs.Table.{nodes, son, is_fork}
use Rattle.table.specs.Nodes.{side_of, left_of, top_of}
use Rattle.table.specs.Blocks.{block_of}
use Rattle.ponds.specs.declared.Pond.{Pond}
use Rattle.ponds_entry.specs.Gathered.{Numbers}
use Rattle.ponds_entry.specs.Words.{register_of}

-- the block of that column, row and level
abbrev pub block_from : ℕ → ℕ → ℕ → Block
block_from column row level = record { column = column; row = row; level = level }

-- quadrant q of a block
abbrev pub quarter_of : Block → ℕ → Block
quarter_of b q = record { column = 2 * b.column + q % 2; row = 2 * b.row + q / 2; level = b.level - 1 }

-- a block of a sheet that has quadrants
pub record Parted (b : Block) : Type 0 where
  pub level : 0 < b.level
  pub column : b.column < 2 ^ top_level
  pub row : b.row < 2 ^ top_level

-- a function's values at the leaves in and under p, which has l levels below it, taken together by an operation
unfoldable pub fold_under : (ℕ → ℕ → ℕ) → (ℕ → ℕ) → List ℕ → ℕ → ℕ → ℕ
fold_under op f T zero p = f p
fold_under op f T (suc l) p =
    cond (is_fork T p)
    (op (op (op (fold_under op f T l (son T p 0)) (fold_under op f T l (son T p 1))) (fold_under op f T l (son T p 2))) (fold_under op f T l (son T p 3)))
    (f p)

-- v where node p has number k, else w
abbrev pub if_has : List ℕ → ℕ → ℕ → ℕ → ℕ → ℕ
if_has numbers k p v w = cond (eqb (get_or numbers p 0) k) v w

-- a node's own part of pond k's entry
abbrev pub pixels_of : ℕ → List ℕ → List ℕ → ℕ → ℕ → ℕ
pixels_of n T numbers k p = if_has numbers k p (side_of n T p * side_of n T p) 0

abbrev pub first_row : ℕ → List ℕ → List ℕ → ℕ → ℕ → ℕ
first_row n T numbers k p = if_has numbers k p (top_of n T p) none

abbrev pub last_row : ℕ → List ℕ → List ℕ → ℕ → ℕ → ℕ
last_row n T numbers k p = if_has numbers k p (top_of n T p + (side_of n T p - 1)) 0

abbrev pub first_column : ℕ → List ℕ → List ℕ → ℕ → ℕ → ℕ
first_column n T numbers k p = if_has numbers k p (left_of n T p) none

abbrev pub last_column : ℕ → List ℕ → List ℕ → ℕ → ℕ → ℕ
last_column n T numbers k p = if_has numbers k p (left_of n T p + (side_of n T p - 1)) 0

-- what those in and under p give pond k
unfoldable pub under_of : ℕ → List ℕ → List ℕ → ℕ → ℕ → ℕ → Pond
under_of n T numbers l p k = record {
  pixels = fold_under ◌+◌ (pixels_of n T numbers k) T l p;
  top = fold_under min (first_row n T numbers k) T l p;
  bottom = fold_under max (last_row n T numbers k) T l p;
  left = fold_under min (first_column n T numbers k) T l p;
  right = fold_under max (last_column n T numbers k) T l p;
}

-- what two parts of a pond cover together
unfoldable pub together : Pond → Pond → Pond
together e f = record {
  pixels = e.pixels + f.pixels;
  top = min e.top f.top;
  bottom = max e.bottom f.bottom;
  left = min e.left f.left;
  right = max e.right f.right;
}

-- the entries with what is in and under p
abbrev pub with_under : ℕ → List ℕ → List ℕ → ℕ → ℕ → (ℕ → Pond) → ℕ → Pond
with_under n T numbers l p E k = together (E k) (under_of n T numbers l p k)

-- what passing the leaves in and under p, whose block is b, asks of its caller: the register has entries with room for
-- the pixels of that block
pub record Entering (T numbers : List ℕ) (p : ℕ) (b : Block) (words : List ℕ) : Type 0 where
  pub n : ℕ
  pub count : ℕ
  pub before : List ℕ
  pub E : ℕ → Pond
  pub told : Numbers n T numbers count
  pub node : p < nodes T
  pub block : b ≡ block_of n T p
  pub long : 5 * count ≤ length before
  pub stands : words ≡ register_of count before E
  pub top : (k : ℕ) → (E k).top ≤ none
  pub left : (k : ℕ) → (E k).left ≤ none
  pub room : (k : ℕ) → (E k).pixels + 4 ^ b.level ≤ 4 ^ top_level

-- and what it leaves
abbrev pub Entered : List ℕ → List ℕ → ℕ → Block → List ℕ → List ℕ → Type 0
Entered T numbers p b words words' =
    (z : Entering T numbers p b words) → words' ≡ register_of z.count z.before (with_under z.n T numbers b.level p z.E)

-- the numbers of a fork's sons
abbrev pub Theirs : List ℕ → List ℕ → ℕ → ℕ → ℕ → ℕ → ℕ → Type 0
Theirs T numbers p nw ne sw se =
    (nw ≡ get_or numbers (son T p 0) 0) × (ne ≡ get_or numbers (son T p 1) 0) × (sw ≡ get_or numbers (son T p 2) 0) × (se ≡ get_or numbers (son T p 3) 0)
