-- The chessboard distance, in half pixels, from a black block's centre to the nearest white pixel of the whole raster
-- (document 01, 'Distance'; document 001). It is the least over all pixels, and says nothing of trees or neighbours.
-- The outside's colour is named: the plain call's is BLACK.
use Rattle.std.specs.Prelude.{Ok, cond, ◌||◌, List, ℕ, ◌+◌, ◌-◌, ◌*◌, ◌^◌, min, max, eqb, length}
use Rattle.base.specs.Tab.{tab, least}
use Rattle.answer.specs.Numbers.{Outcome, and_then, answers}
use Rattle.quad.specs.Numbers.{white, black, none}
use Rattle.table.specs.Table.{nodes, node_type, is_fork}
use Rattle.table.specs.Rules.{each_node_of}
use Rattle.table.specs.Nodes.{pixel, centre_across, centre_down}

-- the gap along an axis from a to the span lo .. hi: 0 inside it
abbrev pub gap : ℕ → ℕ → ℕ → ℕ
gap a lo hi = (lo - a) + (a - hi)

-- from the centre (h, k) to the pixel (i, j), which covers 2i to 2i + 2 by 2j to 2j + 2: the larger of the two gaps
abbrev pub to_pixel : ℕ → ℕ → ℕ → ℕ → ℕ
to_pixel h k i j = max (gap h (2 * i) (2 * i + 2)) (gap k (2 * j) (2 * j + 2))

-- the plain call's outside
abbrev pub plain_outside : ℕ
plain_outside = black

-- from the centre to the outside of a sheet of level n: to the nearest edge where the outside is WHITE, none where it
-- is BLACK
unfoldable pub to_outside : ℕ → ℕ → ℕ → ℕ → ℕ
to_outside outside n h k = cond (eqb outside white) (min (min h k) (min (2 * 2 ^ n - h) (2 * 2 ^ n - k))) none

-- the least distance from (h, k) to a white pixel of the picture f, or to the outside; none where nothing is white
unfoldable pub nearest : ℕ → ℕ → (ℕ → ℕ → ℕ) → ℕ → ℕ → ℕ
nearest outside n f h k =
    least (to_outside outside n h k) (λ j. least none (λ i. cond (eqb (f i j) white) (to_pixel h k i j) none) (2 ^ n)) (2 ^ n)

-- the word of node p: 0 for a white leaf and a fork, for a black leaf the distance from its centre
unfoldable pub distance_at : ℕ → ℕ → List ℕ → ℕ → ℕ
distance_at outside n T p =
    cond (eqb (node_type T p) white || is_fork T p) 0 (nearest outside n (pixel n T) (centre_across n T p) (centre_down n T p))

-- one word for each node
unfoldable pub distances_of : ℕ → ℕ → List ℕ → List ℕ
distances_of outside n T = tab (distance_at outside n T) (nodes T)

-- the call: refusals 1, 2 (table first), 3, 4, 5; `words` is the length of the slice that is lent
unfoldable pub distance_of : ℕ → List ℕ → ℕ → Outcome
distance_of n T words = and_then (each_node_of n T words) (Ok 0)

-- the slice as the call leaves it
unfoldable pub distances_after : ℕ → List ℕ → List ℕ → List ℕ
distances_after n T old = cond (answers (distance_of n T (length old))) (distances_of plain_outside n T) old
