-- What the walk does with a block: its black leaves are placed and joined with those north and west of them, and the
-- lines tell of its own last row and column. Inner definitions: no outside call's statement cites them.
use Rattle.std.specs.Prelude.{false, List, ◌≡◌, ℕ, ◌+◌, ◌-◌, ◌*◌, ◌^◌, ◌≤◌, ◌<◌, length, get_or, set}
use Rattle.quad.specs.Numbers.{black}
use Rattle.table.specs.Table.{node_type, is_fork}
use Rattle.table.specs.Rules.{AtLevel}
use Rattle.table.specs.Nodes.{left_of, top_of, side_of}
use Rattle.ponds.specs.Chain.{Water, Chain}
use Rattle.ponds.specs.Words.{word_of}
use Rattle.ponds_sets.specs.Sets.{leading, Placed, Sets, Begins, Further, Alike}
use Rattle.ponds_sets.specs.Lines.{Has, Label, Line, Met, across}

-- the lines L tell of what lies north and west of the block of level l at (x, y)
pub record Lines (n : ℕ) (T W : List ℕ) (lead : ℕ → ℕ) (L : List ℕ) (x y l : ℕ) : Type 0 where
  pub north : (u : ℕ) → x ≤ u → u < x + 2 ^ l → Line n T W lead y u (y - 1) (get_or L u 0)
  pub west : (v : ℕ) → y ≤ v → v < y + 2 ^ l → Line n T W lead x (x - 1) v (get_or L (across + v) 0)

-- they tell of its last row and its last column, and else they are as before
pub record Left (n : ℕ) (T W : List ℕ) (lead : ℕ → ℕ) (before L : List ℕ) (x y l : ℕ) : Type 0 where
  pub long : length L ≡ length before
  pub north : (u : ℕ) → x ≤ u → u < x + 2 ^ l → Line n T W lead (y + 2 ^ l) u (y + 2 ^ l - 1) (get_or L u 0)
  pub west : (v : ℕ) → y ≤ v → v < y + 2 ^ l → Line n T W lead (x + 2 ^ l) (x + 2 ^ l - 1) v (get_or L (across + v) 0)
  pub rest : (i : ℕ) → (x ≤ i → i < x + 2 ^ l → ⊥) → (across + y ≤ i → i < across + y + 2 ^ l → ⊥) → get_or L i 0 ≡ get_or before i 0

-- node m is the block of level l at (x, y), and the walk comes to it: what was placed has been met, and nothing in it
-- is placed
pub record Coming (T W L : List ℕ) (m x y l : ℕ) : Type 0 where
  pub n : ℕ
  pub lead : ℕ → ℕ
  pub sets : Sets n T W lead
  pub long : length L ≡ 2 * across
  pub at : AtLevel n T m l
  pub left : left_of n T m ≡ x
  pub top : top_of n T m ≡ y
  pub met : (i : ℕ) → Placed T W i → Met n T W lead i
  pub lines : Lines n T W lead L x y l
  pub free : (i : ℕ) → Water T i → Begins n T i x y l → word_of W i ≡ 0

-- what it leaves; r is 0 only where no leader lies in the block
pub record Gone (n : ℕ) (T W : List ℕ) (lead : ℕ → ℕ) (L : List ℕ) (x y l : ℕ) (W' L' : List ℕ) (r : ℕ) : Type 0 where
  pub lead' : ℕ → ℕ
  pub further : Further n T W lead W' lead'
  pub met : (i : ℕ) → Placed T W' i → Met n T W' lead' i
  pub lines : Left n T W' lead' L L' x y l
  pub placed : (i : ℕ) → Water T i → Begins n T i x y l → Placed T W' i
  pub others : (i : ℕ) → Water T i → (Begins n T i x y l → ⊥) → word_of W i ≡ 0 → word_of W' i ≡ 0
  pub none : r ≡ 0 → (i : ℕ) → Water T i → Begins n T i x y l → word_of W' i < leading

abbrev pub Goes : List ℕ → List ℕ → List ℕ → ℕ → ℕ → ℕ → ℕ → List ℕ → List ℕ → ℕ → Type 0
Goes T W L m x y l W' L' r = (z : Coming T W L m x y l) → Gone z.n T W z.lead L x y l W' L' r

-- what joining p's label with another asks of its caller, and what it leaves: they have one leader, where the other is
-- one
pub record Facing (W : List ℕ) (label other : ℕ) : Type 0 where
  pub n : ℕ
  pub T : List ℕ
  pub lead : ℕ → ℕ
  pub sets : Sets n T W lead
  pub own : Placed T W label
  pub there : (other ≡ 0 → ⊥) → Placed T W other

pub record Faced (n : ℕ) (T W : List ℕ) (lead : ℕ → ℕ) (label other : ℕ) (W' : List ℕ) : Type 0 where
  pub lead' : ℕ → ℕ
  pub further : Further n T W lead W' lead'
  pub one : (other ≡ 0 → ⊥) → lead' other ≡ lead' label

pub record Meets (W : List ℕ) (label other : ℕ) (W' : List ℕ) : Type 0 where
  pub long : length W' ≡ length W
  pub alike : Alike W W'
  pub faced : (n : ℕ) (T : List ℕ) (lead : ℕ → ℕ) → Sets n T W lead → Placed T W label → ((other ≡ 0 → ⊥) → Placed T W other)
      → ((other ≡ 0 → ⊥) → Chain n T label other) → Faced n T W lead label other W'

-- what meeting the next label along a side leaves: nothing changes where it is the one before
pub record Nexts (W : List ℕ) (label other before : ℕ) (W' : List ℕ) : Type 0 where
  pub same : other ≡ before → W' ≡ W
  pub new : (other ≡ before → ⊥) → Meets W label other W'

-- the black leaf p has its top left pixel at (x, y); its first k pixels along its north side have been met from there,
-- and along its west side
pub record Along (n : ℕ) (T W : List ℕ) (lead : ℕ → ℕ) (p x y k : ℕ) : Type 0 where
  pub north : (i : ℕ) → i < k → 0 < y → (j : ℕ) → Water T j → Has n T j (x + i) (y - 1) → Placed T W j × (lead j ≡ lead p)
  pub west : (i : ℕ) → i < k → 0 < x → (j : ℕ) → Water T j → Has n T j (x - 1) (y + i) → Placed T W j × (lead j ≡ lead p)

-- what going along the sides of the black leaf p asks of its caller: its label is at hand, and the first pixels have
-- been met
pub record Shore (W L : List ℕ) (label x y side : ℕ) : Type 0 where
  pub n : ℕ
  pub T : List ℕ
  pub lead : ℕ → ℕ
  pub p : ℕ
  pub l : ℕ
  pub sets : Sets n T W lead
  pub own : Label n T W lead label p
  pub left : left_of n T p ≡ x
  pub top : top_of n T p ≡ y
  pub wide : side ≡ side_of n T p
  pub power : side ≡ 2 ^ l
  pub first : Along n T W lead p x y 1
  pub lines : Lines n T W lead L x y l

-- what it leaves once the first k have been met
pub record Shored (n : ℕ) (T W : List ℕ) (lead : ℕ → ℕ) (p x y k : ℕ) (W' : List ℕ) : Type 0 where
  pub lead' : ℕ → ℕ
  pub further : Further n T W lead W' lead'
  pub along : Along n T W' lead' p x y k

pub record Shores (W L : List ℕ) (label x y side k : ℕ) (W' : List ℕ) : Type 0 where
  pub long : length W' ≡ length W
  pub alike : Alike W W'
  pub shored : (z : Shore W L label x y side) → Shored z.n z.T W z.lead z.p x y k W'

-- where r is 0, none of the k words from `from` on is another label than that
pub record Quiet (L : List ℕ) (label from k r : ℕ) : Type 0 where
  pub few : r ≤ k
  pub same : r ≡ 0 → (i : ℕ) → i < k → (get_or L (from + i) 0 ≡ 0 → ⊥) → get_or L (from + i) 0 ≡ label

pub record Sides (kind : ℕ) (W L : List ℕ) (label x y side : ℕ) (W' : List ℕ) : Type 0 where
  pub wet : kind ≡ black → Shores W L label x y side side W'
  pub dry : (kind ≡ black → ⊥) → W' ≡ W

-- the lines with a label in the columns and the rows of a block
pub record LinesFilled (L : List ℕ) (label x y side : ℕ) (L' : List ℕ) : Type 0 where
  pub long : length L' ≡ length L
  pub north : (u : ℕ) → x ≤ u → u < x + side → get_or L' u 0 ≡ label
  pub west : (v : ℕ) → y ≤ v → v < y + side → get_or L' (across + v) 0 ≡ label
  pub rest : (i : ℕ) → (x ≤ i → i < x + side → ⊥) → (across + y ≤ i → i < across + y + side → ⊥) → get_or L' i 0 ≡ get_or L i 0

-- the lines with the labels of a block of four pixels, b, c and d its NE, SW and SE, as its last row and its last
-- column have them
abbrev pub written : List ℕ → ℕ → ℕ → ℕ → ℕ → ℕ → List ℕ
written L x y b c d = set (set (set (set L x c) (x + 1) d) (across + y) b) (across + y + 1) d

-- the walk comes to a leaf, of that type and side
pub record ToLeaf (W L : List ℕ) (kind p side x y : ℕ) : Type 0 where
  pub T : List ℕ
  pub l : ℕ
  pub coming : Coming T W L p x y l
  pub leaf : is_fork T p ≡ false
  pub is : kind ≡ node_type T p
  pub power : side ≡ 2 ^ l

-- a leaf that is come to, whatever its side
pub record Reaching (W L : List ℕ) (kind p x y : ℕ) : Type 0 where
  pub side : ℕ
  pub leaf : ToLeaf W L kind p side x y

-- it has been gone through
abbrev pub PastLeaf : List ℕ → List ℕ → ℕ → ℕ → ℕ → ℕ → ℕ → List ℕ → List ℕ → ℕ → Type 0
PastLeaf W L kind p side x y W' L' r = (z : ToLeaf W L kind p side x y) → Gone z.coming.n z.T W z.coming.lead L x y z.l W' L' r
