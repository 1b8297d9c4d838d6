-- A table and its tree are one picture: the tree's node under a path is the tree of the node that holds it. So an
-- accepted table's tree is the one tree of its pixels, and two accepted tables with one picture have one tree.
use mathlib.Core.Bool.{true, false, cond}
use mathlib.Core.List.{List, [], ◌∷◌}
use mathlib.Core.Logic.{⊎_elim}
use mathlib.Core.Path.{◌≡◌, refl, sym, ◌∙◌}
use Prim.Native.Nat.{ℕ, suc, ◌+◌, ◌^◌, ◌<◌}
use native.Mathlib.Nat.{zero-add}
use native.Mathlib.Omega.{arith}
use lib.ListN.{length}
use Rattle.base.proofs.BoolLaws.{by_bool}
use Rattle.quad.specs.Block.{path_of, Quadrants}
use Rattle.quad.specs.Tree.{fork, colour, son_of, under, shade, tree_of, Shows}
use Rattle.quad.proofs.PathLaws.{path_length, path_quadrants}
use Rattle.quad.proofs.TreeLaws.{by_quadrant}
use Rattle.quad.proofs.PictureLaws.{one_tree, one_picture_one_tree}
use Rattle.table.specs.Table.{son, is_fork}
use Rattle.table.specs.Rules.{Accepted}
use Rattle.table.specs.Nodes.{holder, pixel, tree_at}
use Rattle.table.proofs.RuleLaws.{depth_root}
use Rattle.table.proofs.AcceptedLaws.{tree_zero, tree_leaf, tree_fork, Sound, tree_sound}

-- son q of a node's tree, for any words
pub tree_son : (T : List ℕ) (l p q : ℕ) → q < 4 → son_of (tree_at T (suc l) p) q ≡ tree_at T l (cond (is_fork T p) (son T p q) p)
tree_son T l p q h =
    ⊎_elim
    (λ (f : is_fork T p ≡ true).
    rw (tree_fork T l p f, f)
    (unfold son_of in by_quadrant
    (λ (q : ℕ). son_of (fork (tree_at T l (son T p 0)) (tree_at T l (son T p 1)) (tree_at T l (son T p 2)) (tree_at T l (son T p 3))) q ≡ tree_at T l (son T p q))
    refl refl refl refl q h))
    (λ (f : is_fork T p ≡ false). rw (tree_leaf T (suc l) p f, f, tree_leaf T l p f) (unfold son_of in refl))
    (by_bool (is_fork T p))

-- the tree under a path is the tree of the node that holds the block there
pub tree_under : (n : ℕ) (T : List ℕ) (π : List ℕ) (l : ℕ) → Quadrants π → l + length π ≡ n → under (tree_at T n 0) π ≡ tree_at T l (holder T π)
unfolding under holder Quadrants
tree_under n T [] l h e =
    let q : n ≡ l = omega arith in
    rw q
tree_under n T (q ∷ qs) l h e =
    rw (tree_under n T qs (suc l) h.1 (omega arith)) (tree_son T l (holder T qs) q h.0)

-- the pixels of a table are those of its tree
pub pixel_shade : (n : ℕ) (T : List ℕ) (x y : ℕ) → pixel n T x y ≡ shade n (tree_at T n 0) x y
unfolding pixel shade colour
pixel_shade n T x y =
    let e : 0 + length (path_of n x y) ≡ n = zero-add _ ∙ path_length n x y in
    rw (tree_under n T (path_of n x y) 0 (path_quadrants n x y) e, tree_zero T (holder T (path_of n x y)))

module _ (n : ℕ) (T : List ℕ) (acc : Accepted n T) where
  -- the whole sheet's tree
  pub sheet_sound : Sound n (tree_at T n 0)
  sheet_sound = tree_sound n T acc n 0 acc.sized.some (omega (arith, depth_root T n))

  pub sheet_tree : tree_at T n 0 ≡ tree_of (pixel n T) n 0 0
  unfolding Shows
  sheet_tree = one_tree (pixel n T) n (tree_at T n 0) sheet_sound.within sheet_sound.reduced (λ x y hx hy. sym (pixel_shade n T x y))

pub same_picture_same_tree : (n : ℕ) (T U : List ℕ) → Accepted n T → Accepted n U
    → ((x y : ℕ) → x < 2 ^ n → y < 2 ^ n → pixel n T x y ≡ pixel n U x y) → tree_at T n 0 ≡ tree_at U n 0
same_picture_same_tree n T U a b h =
    let s = sheet_sound n T a in
    let t = sheet_sound n U b in
    one_picture_one_tree n _ _ s.within t.within s.reduced t.reduced (λ x y hx hy. sym (pixel_shade n T x y) ∙ h x y hx hy ∙ pixel_shade n U x y)
