-- A quadtree is data: a leaf of a colour, or a fork of four, in the order NW, NE, SW, SE (document 000, section 2). Its
-- picture, its size, and the tree of a picture. A picture gives each pixel's colour by its column and row.
use Rattle.std.specs.Prelude.{Bool, false, cond, ◌&&◌, List, [], ◌∷◌, ◌++◌, ◌≡◌, ℕ, zero, suc, ◌+◌, ◌*◌, ◌^◌, ◌≤◌, ◌<◌, eqb}
use Rattle.quad.specs.Numbers.{fork_type, top_colour}
use Rattle.quad.specs.Block.{path_of}

pub data Tree : Type 0 where
  leaf : ℕ → Tree
  fork : Tree → Tree → Tree → Tree → Tree

-- a leaf's colour; a fork's type where there is none
unfoldable pub colour : Tree → ℕ
colour (leaf c) = c
colour (fork a b c d) = fork_type

-- son q of a fork; a leaf has no sons, and stands for them
unfoldable pub son_of : Tree → ℕ → Tree
son_of (leaf c) q = leaf c
son_of (fork a b c d) q = cond (eqb q 0) a (cond (eqb q 1) b (cond (eqb q 2) c d))

-- the smallest node that contains the block at the end of a path
unfoldable pub under : Tree → List ℕ → Tree
under t [] = t
under t (q ∷ qs) = son_of (under t qs) q

-- the colour of the pixel (x, y) in a tree of level l
unfoldable pub shade : ℕ → Tree → ℕ → ℕ → ℕ
shade l t x y = colour (under t (path_of l x y))

-- no fork stands at level 0 where the root is at level l
unfoldable pub Within : ℕ → Tree → Type 0
Within l (leaf c) = Unit {0}
Within zero (fork a b c d) = ⊥
Within (suc l) (fork a b c d) = Within l a × Within l b × Within l c × Within l d

-- two leaves of one colour
unfoldable pub same_leaf : Tree → Tree → Bool
same_leaf (leaf c) (leaf k) = eqb c k
same_leaf (leaf c) (fork a b d e) = false
same_leaf (fork a b c d) t = false

-- four like leaves: a fork over them is needless
abbrev pub alike : Tree → Tree → Tree → Tree → Bool
alike a b c d = same_leaf a b && (same_leaf a c && same_leaf a d)

-- four types are those of four like leaves
unfoldable pub like_types : ℕ → ℕ → ℕ → ℕ → Bool
like_types a b c d = cond (eqb a fork_type) false (cond (eqb a b) (cond (eqb a c) (eqb a d) false) false)

-- no fork is needless
unfoldable pub Reduced : Tree → Type 0
Reduced (leaf c) = Unit {0}
Reduced (fork a b c d) = (alike a b c d ≡ false) × Reduced a × Reduced b × Reduced c × Reduced d

-- every leaf has a leaf's colour
unfoldable pub Coloured : Tree → Type 0
Coloured (leaf c) = c ≤ top_colour
Coloured (fork a b c d) = Coloured a × Coloured b × Coloured c × Coloured d

-- the number of nodes
unfoldable pub size_of : Tree → ℕ
size_of (leaf c) = 1
size_of (fork a b c d) = 1 + (size_of a + (size_of b + (size_of c + size_of d)))

-- H: the sum of the sides of all leaves, in a tree of level l
unfoldable pub sides_of : ℕ → Tree → ℕ
sides_of l (leaf c) = 2 ^ l
sides_of zero (fork a b c d) = 0
sides_of (suc l) (fork a b c d) = sides_of l a + (sides_of l b + (sides_of l c + sides_of l d))

-- the types in preorder
unfoldable pub types_of : Tree → List ℕ
types_of (leaf c) = c ∷ []
types_of (fork a b c d) = fork_type ∷ (types_of a ++ (types_of b ++ (types_of c ++ types_of d)))

-- a fork over four, and no fork where it would be needless
unfoldable pub join : Tree → Tree → Tree → Tree → Tree
join a b c d = cond (alike a b c d) a (fork a b c d)

-- the tree of the picture f in the block (x, y) of level l
unfoldable pub tree_of : (ℕ → ℕ → ℕ) → ℕ → ℕ → ℕ → Tree
tree_of f zero x y = leaf (f x y)
tree_of f (suc l) x y =
    join (tree_of f l (2 * x) (2 * y)) (tree_of f l (2 * x + 1) (2 * y)) (tree_of f l (2 * x) (2 * y + 1)) (tree_of f l (2 * x + 1) (2 * y + 1))

-- a tree of level n has the picture f
unfoldable pub Shows : (ℕ → ℕ → ℕ) → ℕ → Tree → Type 0
Shows f n t = (x y : ℕ) → x < 2 ^ n → y < 2 ^ n → shade n t x y ≡ f x y
