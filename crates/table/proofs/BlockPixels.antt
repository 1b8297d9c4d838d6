-- The pixels of a block are those of the node that holds it: a pixel's path from the sheet goes through its block of
-- any level.
use mathlib.Core.List.{List}
use mathlib.Core.Path.{◌≡◌, ap, ◌∙◌}
use Prim.Native.Nat.{ℕ, zero, suc, ◌+◌, ◌/◌, ◌^◌}
use native.Mathlib.Nat.{add-zero}
use native.Mathlib.Omega.{arith}
use Rattle.quad.specs.Block.{path_of}
use Rattle.quad.specs.Tree.{Tree, under, shade}
use Rattle.quad.proofs.PathLaws.{path_length, path_quadrants, half_last, shade_top}
use Rattle.table.specs.Nodes.{holder, pixel, tree_at}
use Rattle.table.proofs.PictureLaws.{tree_under, pixel_shade}

-- of any tree: the pixel's block of level l lies d levels below
pub shade_block : (d l : ℕ) (t : Tree) (x y : ℕ) → shade (l + d) t x y ≡ shade l (under t (path_of d (x / 2 ^ l) (y / 2 ^ l))) x y
unfolding path_of under
shade_block zero l t x y = rw (add-zero l)
shade_block (suc d) l t x y =
    let e : l + suc d ≡ suc l + d = omega arith in
    rw (e, shade_block d (suc l) t x y, half_last l x, half_last l y) (shade_top l (under t (path_of d (x / 2 ^ suc l) (y / 2 ^ suc l))) x y)

pub pixel_block : (n l d : ℕ) (T : List ℕ) (x y : ℕ) → l + d ≡ n → pixel n T x y ≡ shade l (tree_at T l (holder T (path_of d (x / 2 ^ l) (y / 2 ^ l)))) x y
pixel_block n l d T x y e =
    let π = path_of d (x / 2 ^ l) (y / 2 ^ l) in
    pixel_shade n T x y
    ∙ rw (← e, shade_block d l (tree_at T (l + d) 0) x y)
    (ap (λ (t : Tree). shade l t x y)
    (tree_under (l + d) T π l (path_quadrants d (x / 2 ^ l) (y / 2 ^ l)) (ap (λ (k : ℕ). l + k) (path_length d (x / 2 ^ l) (y / 2 ^ l)))))
