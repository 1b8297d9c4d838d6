-- How the leaders of each row stand in a queue: the leaves are gone through block by block, SE, SW, NE, NW, so in one
-- row from east to west, and each leader goes to the head of its row's queue. A row's entry is the first of its queue,
-- and a leader's word tells the next; 0, the root, is none. Inner definitions: no outside call's statement cites them.
use Rattle.std.specs.Prelude.{Bool, true, false, cond, List, ◌⊎◌, ◌≡◌, ℕ, ◌+◌, ◌^◌, ◌≤◌, ◌<◌, ltb, length, get_or, set}
use Rattle.quad.specs.Numbers.{top_level}
use Rattle.table.specs.Table.{nodes, is_fork}
use Rattle.table.specs.Rules.{AtLevel}
use Rattle.table.specs.Nodes.{left_of, top_of}
use Rattle.ponds.specs.Chain.{Water}
use Rattle.ponds.specs.Words.{word_of}
use Rattle.ponds_sets.specs.Sets.{leading, Begins}
use Rattle.ponds_sets.specs.Labelled.{Labelled}

-- the entry of row y
abbrev pub row_of : List ℕ → ℕ → ℕ
row_of rows y = get_or rows y 0

-- black leaf i leads its set
pub record Leads (T F : List ℕ) (i : ℕ) : Type 0 where
  pub water : Water T i
  pub high : leading ≤ word_of F i

-- the word with that next one where it leads, and the head of a queue that p's goes to where it leads
unfoldable pub linked_of : ℕ → ℕ → ℕ
linked_of word next = cond (ltb word leading) word next

unfoldable pub head_of : ℕ → ℕ → ℕ → ℕ
head_of word p head = cond (ltb word leading) head p

-- of the leaders that D says stand in queues, m is the first in row y from column x on, or 0 where there is none
pub record Ahead (n : ℕ) (T : List ℕ) (D : ℕ → Bool) (y x m : ℕ) : Type 0 where
  pub none : m ≡ 0 → (j : ℕ) → D j ≡ true → top_of n T j ≡ y → x ≤ left_of n T j → ⊥
  pub some : (m ≡ 0 → ⊥) → (D m ≡ true) × (top_of n T m ≡ y) × (x ≤ left_of n T m)
  pub first : (j : ℕ) → D j ≡ true → top_of n T j ≡ y → x ≤ left_of n T j → left_of n T m ≤ left_of n T j

-- the leaders that D says stand in their queues, F being the words before
pub record Queued (n : ℕ) (T F : List ℕ) (D : ℕ → Bool) (W R : List ℕ) : Type 0 where
  pub size : length W ≡ nodes T
  pub tall : length R ≡ 2 ^ top_level
  pub leads : (i : ℕ) → D i ≡ true → Leads T F i
  pub still : (i : ℕ) → D i ≡ false → word_of W i ≡ word_of F i
  pub heads : (y : ℕ) → Ahead n T D y 0 (row_of R y)
  pub nexts : (i : ℕ) → D i ≡ true → Ahead n T D (top_of n T i) (left_of n T i + 1) (word_of W i)

-- in the rows of the block of level l at (x, y), the leaders that stand in queues begin east of it
abbrev pub East : ℕ → List ℕ → (ℕ → Bool) → ℕ → ℕ → ℕ → Type 0
East n T D x y l = (i : ℕ) → D i ≡ true → y ≤ top_of n T i → top_of n T i < y + 2 ^ l → x + 2 ^ l ≤ left_of n T i

-- the block is gone through: the leaders that begin in it stand in their queues too, and no others
pub record Passed (n : ℕ) (T F : List ℕ) (D : ℕ → Bool) (x y l : ℕ) (W R : List ℕ) : Type 0 where
  pub now : ℕ → Bool
  pub queued : Queued n T F now W R
  pub kept : (i : ℕ) → D i ≡ true → now i ≡ true
  pub only : (i : ℕ) → now i ≡ true → (D i ≡ true) ⊎ Begins n T i x y l
  pub all : (i : ℕ) → Leads T F i → Begins n T i x y l → now i ≡ true

-- what going through the leaves under fork p asks, and what it leaves
pub record Reach (n : ℕ) (F : List ℕ) (D : ℕ → Bool) (T W R : List ℕ) (p l y : ℕ) : Type 0 where
  pub ready : Labelled n T F
  pub place : AtLevel n T p l
  pub fork : is_fork T p ≡ true
  pub top : y ≡ top_of n T p
  pub queued : Queued n T F D W R
  pub east : East n T D (left_of n T p) (top_of n T p) l

pub record Reached (T W R : List ℕ) (p l y : ℕ) : Type 0 where
  pub n : ℕ
  pub F : List ℕ
  pub D : ℕ → Bool
  pub reach : Reach n F D T W R p l y

abbrev pub Through : List ℕ → List ℕ → List ℕ → ℕ → ℕ → ℕ → List ℕ → List ℕ → Type 0
Through T W R p l y W' R' =
    (n : ℕ) (F : List ℕ) (D : ℕ → Bool) → Reach n F D T W R p l y → Passed n T F D (left_of n T p) (top_of n T p) l W' R'

-- there is a word for leaf p, and its number is one of 32 bits
pub record Room (W : List ℕ) (p : ℕ) : Type 0 where
  pub node : p < length W
  pub few : length W < leading

-- leaf p's word, and the first of the queue, once it stands there where it leads
pub record Stood (W : List ℕ) (p first : ℕ) (W' : List ℕ) (r : ℕ) : Type 0 where
  pub words : W' ≡ set W p (linked_of (word_of W p) first)
  pub head : r ≡ head_of (word_of W p) p first

-- all leaders stand in their queues
pub record Full (n : ℕ) (T F W R : List ℕ) : Type 0 where
  pub ready : Labelled n T F
  pub now : ℕ → Bool
  pub queued : Queued n T F now W R
  pub all : (i : ℕ) → Leads T F i → now i ≡ true
