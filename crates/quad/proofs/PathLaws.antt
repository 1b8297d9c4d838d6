-- A block and its path are one thing: a depth, a column and a row give a path of quadrants, which gives them back. A
-- path leads down from the top too.
use mathlib.Core.List.{List, [], ◌∷◌}
use mathlib.Core.Path.{◌≡◌, refl, ap, sym, ◌∙◌}
use Prim.Native.Nat.{ℕ, zero, suc, ◌+◌, ◌*◌, ◌/◌, ◌%◌, ◌^◌, ◌<◌}
use native.Mathlib.Nat.{div-div-eq-div-mul, div-one, mul_comm, pow-succ'}
use native.Mathlib.Omega.{arith}
use lib.ListN.{length}
use Rattle.quad.specs.Block.{quadrant_of, path_of, column, row, Quadrants}
use Rattle.quad.specs.Tree.{Tree, leaf, colour, son_of, under, shade}

-- the path of depth d has d entries, and they are quadrants
pub path_length : (d x y : ℕ) → length (path_of d x y) ≡ d
unfolding path_of
path_length zero x y = refl
path_length (suc d) x y = ap suc (path_length d (x / 2) (y / 2))

pub path_quadrants : (d x y : ℕ) → Quadrants (path_of d x y)
unfolding path_of Quadrants
path_quadrants zero x y = tt
path_quadrants (suc d) x y = (omega arith, path_quadrants d (x / 2) (y / 2))

-- the block at the end of a block's path is that block
pub path_column : (d x y : ℕ) → x < 2 ^ d → column (path_of d x y) ≡ x
unfolding path_of column
path_column zero x y h = omega arith
path_column (suc d) x y h = omega (arith, path_column d (x / 2) (y / 2) (omega (arith, pow-succ' 2 d)))

pub path_row : (d x y : ℕ) → y < 2 ^ d → row (path_of d x y) ≡ y
unfolding path_of row
path_row zero x y h = omega arith
path_row (suc d) x y h = omega (arith, path_row d (x / 2) (y / 2) (omega (arith, pow-succ' 2 d)))

-- it is a block of the sheet
pub column_lt : (π : List ℕ) → Quadrants π → column π < 2 ^ length π
unfolding Quadrants column
column_lt [] h = omega arith
column_lt (q ∷ qs) h = omega (arith, column_lt qs h.1, pow-succ' 2 (length qs))

pub row_lt : (π : List ℕ) → Quadrants π → row π < 2 ^ length π
unfolding Quadrants row
row_lt [] h = omega arith
row_lt (q ∷ qs) h = omega (arith, row_lt qs h.1, pow-succ' 2 (length qs))

-- the path of the block at the end of a path is that path
pub path_back : (π : List ℕ) → Quadrants π → path_of (length π) (column π) (row π) ≡ π
unfolding Quadrants path_of column row
path_back [] h = refl
path_back (q ∷ qs) h =
    let q<4 = h.0 in
    let ex : (q % 2 + 2 * column qs) / 2 ≡ column qs = omega arith in
    let ey : (q / 2 + 2 * row qs) / 2 ≡ row qs = omega arith in
    let eq : quadrant_of (q % 2 + 2 * column qs) (q / 2 + 2 * row qs) ≡ q = omega arith in
    cc (path_back qs h.1)

-- half of a number, and then what is left of 2 ^ l, in either order
pub half_first : (l x : ℕ) → x / 2 / 2 ^ l ≡ x / 2 ^ suc l
half_first l x = div-div-eq-div-mul x 2 (2 ^ l) ∙ ap (λ (j : ℕ). x / j) (sym (pow-succ' 2 l))

pub half_last : (l x : ℕ) → x / 2 ^ l / 2 ≡ x / 2 ^ suc l
half_last l x = div-div-eq-div-mul x (2 ^ l) 2 ∙ ap (λ (j : ℕ). x / j) (mul_comm (2 ^ l) 2 ∙ sym (pow-succ' 2 l))

-- a pixel of a tree of level l + 1 is a pixel of one son: the path read from the top
pub under_top : (l : ℕ) (t : Tree) (x y : ℕ) → under t (path_of (suc l) x y) ≡ under (son_of t (quadrant_of (x / 2 ^ l) (y / 2 ^ l))) (path_of l x y)
unfolding path_of under
under_top zero t x y = rw (div-one x, div-one y)
under_top (suc l) t x y = rw (under_top l t (x / 2) (y / 2), half_first l x, half_first l y)

pub shade_top : (l : ℕ) (t : Tree) (x y : ℕ) → shade (suc l) t x y ≡ shade l (son_of t (quadrant_of (x / 2 ^ l) (y / 2 ^ l))) x y
unfolding shade
shade_top l t x y = ap colour (under_top l t x y)

-- all of a leaf is the leaf
pub under_leaf : (c : ℕ) (π : List ℕ) → under (leaf c) π ≡ leaf c
unfolding under son_of
under_leaf c [] = refl
under_leaf c (q ∷ qs) = rw (under_leaf c qs)

pub shade_leaf : (l c x y : ℕ) → shade l (leaf c) x y ≡ c
unfolding shade colour
shade_leaf l c x y = rw (under_leaf c (path_of l x y))
