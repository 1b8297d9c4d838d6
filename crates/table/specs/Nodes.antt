-- Where a node of a table stands on the sheet, and which node stands at a place; the tree and the picture of a table.
-- All of it is defined for any words, and means what document 01 says where the table is accepted.
use Rattle.std.specs.Prelude.{Bool, true, false, cond, List, [], ◌∷◌, ◌≡◌, ℕ, zero, suc, ◌+◌, ◌-◌, ◌*◌, ◌^◌, ◌<◌, eqb}
use Rattle.quad.specs.Block.{path_of, column, row}
use Rattle.quad.specs.Tree.{Tree, leaf, fork}
use Rattle.table.specs.Table.{father, son, node_type, is_fork}
use Rattle.table.specs.Rules.{depth_to}

-- the level of node p on a sheet of level n: n less its depth
abbrev pub level_of : ℕ → List ℕ → ℕ → ℕ
level_of n T p = n - depth_to T n p

-- the first of four quadrants for which a test holds
unfoldable pub first_quadrant : (ℕ → Bool) → ℕ
first_quadrant g = cond (g 0) 0 (cond (g 1) 1 (cond (g 2) 2 3))

-- SONTYPE(P): the quadrant of its father that p is (document 000, section 2)
unfoldable pub son_type : List ℕ → ℕ → ℕ
son_type T p = first_quadrant (λ q. eqb (son T (father T p) q) p)

-- the quadrants from p up to the root, at most k of them: the path of p's block
unfoldable pub path_to : List ℕ → ℕ → ℕ → List ℕ
path_to T zero p = []
path_to T (suc k) p = elim (eqb p 0) [ true ↦ [] | false ↦ son_type T p ∷ path_to T k (father T p) ]

-- the smallest node that contains the block at the end of a path
unfoldable pub holder : List ℕ → List ℕ → ℕ
holder T [] = 0
holder T (q ∷ qs) = let p = holder T qs in cond (is_fork T p) (son T p q) p

-- a path whose every step goes from a fork to one of its sons: it ends at a node's own block
unfoldable pub Real : List ℕ → List ℕ → Type 0
Real T [] = Unit {0}
Real T (q ∷ qs) = (q < 4) × (is_fork T (holder T qs) ≡ true) × Real T qs

-- the colour of the pixel (x, y): the type of the leaf that holds it
unfoldable pub pixel : ℕ → List ℕ → ℕ → ℕ → ℕ
pixel n T x y = node_type T (holder T (path_of n x y))

-- the tree that node p stands for, at level l
unfoldable pub tree_at : List ℕ → ℕ → ℕ → Tree
tree_at T zero p = leaf (node_type T p)
tree_at T (suc l) p = elim (is_fork T p) [
  | true ↦ fork (tree_at T l (son T p 0)) (tree_at T l (son T p 1)) (tree_at T l (son T p 2)) (tree_at T l (son T p 3))
  | false ↦ leaf (node_type T p)
]

-- the block of node p on a sheet of level n, in pixels: its side, and the column and the row of its top left pixel
abbrev pub side_of : ℕ → List ℕ → ℕ → ℕ
side_of n T p = 2 ^ level_of n T p

abbrev pub left_of : ℕ → List ℕ → ℕ → ℕ
left_of n T p = column (path_to T n p) * side_of n T p

abbrev pub top_of : ℕ → List ℕ → ℕ → ℕ
top_of n T p = row (path_to T n p) * side_of n T p

-- its centre (h, k), in half pixels (document 01, 'Distance')
abbrev pub centre_across : ℕ → List ℕ → ℕ → ℕ
centre_across n T p = 2 * left_of n T p + side_of n T p

abbrev pub centre_down : ℕ → List ℕ → ℕ → ℕ
centre_down n T p = 2 * top_of n T p + side_of n T p
