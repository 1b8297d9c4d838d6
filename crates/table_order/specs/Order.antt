-- What is passed of a table that stands in preorder (`table_order`): inner definitions, by which the check accepts
-- such a table faster still. What is passed is what is seen (`Ordered`); no outside statement speaks of them.
use Rattle.std.specs.Prelude.{Bool, true, not, ◌&&◌, List, [], ◌∷◌, ◌≡◌, ℕ, ◌+◌, ◌*◌, ◌<◌, ◌≤◌, leb, eqb, length, get_or}
use Rattle.quad.specs.Numbers.{top_colour, none, max_words}
use Rattle.table.specs.Table.{nodes, is_fork}
use Rattle.table.specs.Links.{four_sons}
use Rattle.table_sound.specs.Seen.{AllNodes, like_leaves, seen_of}

-- the two words from i on are a and b
unfoldable pub two_are : List ℕ → ℕ → ℕ → ℕ → Bool
two_are T i a b = eqb (get_or T i 0) a && eqb (get_or T (i + 1) 0) b

-- the six words from i on are those of a leaf whose father is f
unfoldable pub leaf_from : List ℕ → ℕ → ℕ → Bool
leaf_from T i f =
    leb (get_or T (i + 5) 0) top_colour && two_are T i f none && two_are T (i + 2) none none && eqb (get_or T (i + 4) 0) none

-- a fork's sons are four pixels that stand in order, the five nodes from p on among the table's
unfoldable pub pixels_from : List ℕ → ℕ → ℕ → Bool
pixels_from T count p =
    leb (p + 5) count && two_are T (6 * p + 1) (p + 1) (p + 2) && two_are T (6 * p + 3) (p + 3) (p + 4)
    && leaf_from T (6 * p + 6) p && leaf_from T (6 * p + 12) p && leaf_from T (6 * p + 18) p && leaf_from T (6 * p + 24) p
    && not (like_leaves T ((p + 1) ∷ (p + 2) ∷ (p + 3) ∷ (p + 4) ∷ []))

-- a fork of a table of that many nodes, no more than a table may have
pub record ForkOf (T : List ℕ) (count p : ℕ) : Type 0 where
  pub node : p < nodes T
  pub fork : is_fork T p ≡ true
  pub all : count ≡ nodes T
  pub few : length T ≤ max_words

-- a fork whose four sons are nodes
pub record Named (T : List ℕ) (p : ℕ) : Type 0 where
  pub node : p < nodes T
  pub sons : AllNodes T (four_sons T p)
  pub few : length T ≤ max_words

-- its sons are like leaves, and the node after all that is below it the fifth from it
unfoldable pub needless_fork : List ℕ → ℕ → ℕ → Bool
needless_fork T p next = eqb next (p + 5) && like_leaves T (four_sons T p)

-- r comes after as many nodes from p on as are seen from p
pub record Ordered (T : List ℕ) (l p r : ℕ) : Type 0 where
  pub within : r ≤ nodes T
  pub after : p < r
  pub seen : r ≡ p + seen_of T l p
