-- The two lines that the walk keeps: of each column the label of the leaf last met in it, and of each row. So they tell
-- what lies north and west of the next block. A label is 0 where a leaf is white, and else a leaf of its set. Inner
-- definitions: no outside call's statement cites them.
use Rattle.std.specs.Prelude.{List, ◌≡◌, ℕ, ◌+◌, ◌-◌, ◌^◌, ◌≤◌, ◌<◌}
use Rattle.quad.specs.Numbers.{top_level}
use Rattle.table.specs.Table.{nodes}
use Rattle.table.specs.Nodes.{left_of, top_of, side_of}
use Rattle.ponds.specs.Chain.{Water}
use Rattle.ponds_sets.specs.Sets.{place_of, Placed}

-- pixel (x, y) is one of node m's
pub record Has (n : ℕ) (T : List ℕ) (m x y : ℕ) : Type 0 where
  pub node : m < nodes T
  pub west : left_of n T m ≤ x
  pub east : x < left_of n T m + side_of n T m
  pub north : top_of n T m ≤ y
  pub south : y < top_of n T m + side_of n T m

-- v is a label of the black leaf j: a leaf of j's set that begins no later
pub record Label (n : ℕ) (T W : List ℕ) (lead : ℕ → ℕ) (v j : ℕ) : Type 0 where
  pub label : Placed T W v
  pub leaf : Placed T W j
  pub one : lead v ≡ lead j
  pub early : place_of n T v ≤ place_of n T j

-- v tells of pixel (x, y): the label of its leaf, if that is black, and else 0
pub record LineTells (n : ℕ) (T W : List ℕ) (lead : ℕ → ℕ) (x y v : ℕ) : Type 0 where
  pub wet : (j : ℕ) → Water T j → Has n T j x y → Label n T W lead v j
  pub dry : (v ≡ 0 → ⊥) → (j : ℕ) × Has n T j x y × Label n T W lead v j

-- so it does where there is such a pixel, `edge` being how far from the sheet's own edge it lies, and else it is 0
pub record Line (n : ℕ) (T W : List ℕ) (lead : ℕ → ℕ) (edge x y v : ℕ) : Type 0 where
  pub off : edge ≡ 0 → v ≡ 0
  pub on : 0 < edge → LineTells n T W lead x y v

-- pixel (x, y) of the black leaf p and the black leaves north and west of it have one leader
pub record MetAt (n : ℕ) (T W : List ℕ) (lead : ℕ → ℕ) (p x y : ℕ) : Type 0 where
  pub north : 0 < y → (j : ℕ) → Water T j → Has n T j x (y - 1) → Placed T W j × (lead j ≡ lead p)
  pub west : 0 < x → (j : ℕ) → Water T j → Has n T j (x - 1) y → Placed T W j × (lead j ≡ lead p)

-- so all pixels of p
abbrev pub Met : ℕ → List ℕ → List ℕ → (ℕ → ℕ) → ℕ → Type 0
Met n T W lead p = (x y : ℕ) → Has n T p x y → MetAt n T W lead p x y

-- how many words a line has
abbrev pub across : ℕ
across = 2 ^ top_level
