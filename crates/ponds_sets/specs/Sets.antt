-- The words while the black leaves of a sheet are labelled. A black leaf's word is 0 until the walk comes to it. From
-- then on it is a leaf of its set that begins earlier by rows or, where the leaf leads its set, the leaf's own place,
-- from `leading` on. So a set's leader holds the first of its pixels. Inner definitions: no outside call's statement
-- cites them.
use Rattle.std.specs.Prelude.{true, List, ◌≡◌, ℕ, ◌+◌, ◌*◌, ◌^◌, ◌≤◌, ◌<◌, length}
use Rattle.quad.specs.Numbers.{black, top_level}
use Rattle.table.specs.Table.{nodes, node_type, is_fork}
use Rattle.table.specs.Rules.{Accepted}
use Rattle.table.specs.Nodes.{left_of, top_of, level_of}
use Rattle.ponds.specs.Chain.{Water, Chain}
use Rattle.ponds.specs.Words.{word_of}

-- from this number on a word is a leader's
abbrev pub leading : ℕ
leading = 2147483648

-- the place of a node: that of its top left pixel, by rows that are as long as those of the widest sheet
unfoldable pub place_of : ℕ → List ℕ → ℕ → ℕ
place_of n T p = top_of n T p * 2 ^ top_level + left_of n T p

-- a black leaf that the walk has come to
pub record Placed (T W : List ℕ) (i : ℕ) : Type 0 where
  pub water : Water T i
  pub some : word_of W i ≡ 0 → ⊥

-- each word is a leader's own place, or leads on to an earlier leaf of its set; a chain joins a leaf and its leader,
-- which is the set's first by rows. A fork's word may be marked, and a white leaf's is 0
pub record Sets (n : ℕ) (T W : List ℕ) (lead : ℕ → ℕ) : Type 0 where
  pub accepted : Accepted n T
  pub each : length W ≡ nodes T
  pub root : is_fork T 0 ≡ true
  pub own : (i : ℕ) → Placed T W i → leading ≤ word_of W i → (lead i ≡ i) × (word_of W i ≡ leading + place_of n T i)
  pub on : (i : ℕ) → Placed T W i → word_of W i < leading
      → Placed T W (word_of W i) × (lead (word_of W i) ≡ lead i) × (place_of n T (word_of W i) < place_of n T i)
  pub chain : (i : ℕ) → Placed T W i → Chain n T i (lead i)
  pub leader : (i : ℕ) → Placed T W i → Placed T W (lead i)
  pub once : (i : ℕ) → Placed T W i → lead (lead i) ≡ lead i
  pub first : (i : ℕ) → Placed T W i → place_of n T (lead i) ≤ place_of n T i

-- the block of node i begins in the block of level l whose top left pixel is (x, y)
pub record Begins (n : ℕ) (T : List ℕ) (i x y l : ℕ) : Type 0 where
  pub west : x ≤ left_of n T i
  pub east : left_of n T i < x + 2 ^ l
  pub north : y ≤ top_of n T i
  pub south : top_of n T i < y + 2 ^ l

-- no black leaf that begins in the block leads its set, and all are placed
abbrev pub Bare : ℕ → List ℕ → List ℕ → ℕ → ℕ → ℕ → Type 0
Bare n T W x y l = (i : ℕ) → Water T i → Begins n T i x y l → Placed T W i × (word_of W i < leading)

-- the word of a node that is no black leaf: as before, or 0, or the mark of a fork with no leader under it
pub data Dark (n : ℕ) (T W W' : List ℕ) (i : ℕ) : Type 0 where
  as_before : word_of W' i ≡ word_of W i → Dark n T W W' i
  none : word_of W' i ≡ 0 → Dark n T W W' i
  marked : is_fork T i ≡ true → word_of W' i ≡ leading → Bare n T W' (left_of n T i) (top_of n T i) (level_of n T i) → Dark n T W W' i

-- the sets of W' are those of W, some of them joined: what was placed still is, what led on does, and what had one
-- leader has one
pub record Further (n : ℕ) (T W : List ℕ) (lead : ℕ → ℕ) (W' : List ℕ) (lead' : ℕ → ℕ) : Type 0 where
  pub sets : Sets n T W' lead'
  pub placed : (i : ℕ) → Placed T W i → Placed T W' i
  pub linked : (i : ℕ) → Placed T W i → word_of W i < leading → word_of W' i < leading
  pub together : (i j : ℕ) → Placed T W i → Placed T W j → lead i ≡ lead j → lead' i ≡ lead' j
  pub dark : (i : ℕ) → (node_type T i ≡ black → ⊥) → Dark n T W W' i

-- no other node's word is 0 or not than before
abbrev pub Alike : List ℕ → List ℕ → Type 0
Alike W W' = (i : ℕ) → word_of W i ≡ 0 → word_of W' i ≡ 0

-- what a look for the leader of p asks of its caller, and what it leaves: the sets stay as they are
pub record Asking (W : List ℕ) (p : ℕ) : Type 0 where
  pub n : ℕ
  pub T : List ℕ
  pub lead : ℕ → ℕ
  pub sets : Sets n T W lead
  pub placed : Placed T W p

abbrev pub Led : List ℕ → ℕ → ℕ → Type 0
Led W p r = (n : ℕ) (T : List ℕ) (lead : ℕ → ℕ) → Sets n T W lead → Placed T W p → r ≡ lead p

pub record Shorter (W : List ℕ) (p : ℕ) (W' : List ℕ) (r : ℕ) : Type 0 where
  pub long : length W' ≡ length W
  pub alike : Alike W W'
  pub leads : Led W p r
  pub further : (n : ℕ) (T : List ℕ) (lead : ℕ → ℕ) → Sets n T W lead → Placed T W p → Further n T W lead W' lead

-- what joining p and q asks, and what it leaves: they have one leader then
pub record Joining (W : List ℕ) (p q : ℕ) : Type 0 where
  pub n : ℕ
  pub T : List ℕ
  pub lead : ℕ → ℕ
  pub sets : Sets n T W lead
  pub first : Placed T W p
  pub second : Placed T W q

pub record Union (n : ℕ) (T W : List ℕ) (lead : ℕ → ℕ) (p q : ℕ) (W' : List ℕ) : Type 0 where
  pub lead' : ℕ → ℕ
  pub further : Further n T W lead W' lead'
  pub one : lead' p ≡ lead' q

pub record Joined (W : List ℕ) (p q : ℕ) (W' : List ℕ) : Type 0 where
  pub long : length W' ≡ length W
  pub alike : Alike W W'
  pub union : (n : ℕ) (T : List ℕ) (lead : ℕ → ℕ) → Sets n T W lead → Placed T W p → Placed T W q → Chain n T p q → Union n T W lead p q W'
