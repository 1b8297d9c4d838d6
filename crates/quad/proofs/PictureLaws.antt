-- One picture, one tree (document 01, demand 2): the tree of a picture is of its level, is reduced and shows the
-- picture, and it is the only such tree.
use mathlib.Core.Path.{◌≡◌, refl, ap, sym, ◌∙◌}
use Prim.Native.Nat.{ℕ, zero, suc, ◌+◌, ◌*◌, ◌/◌, ◌%◌, ◌^◌, ◌≤◌, ◌<◌}
use native.Mathlib.Nat.{add-zero, div-one, div-eq_of_lt}
use native.Mathlib.Omega.{arith}
use Rattle.base.proofs.PowLaws.{below_pow}
use Rattle.quad.specs.Numbers.{top_colour}
use Rattle.quad.specs.Block.{quadrant_of, path_of}
use Rattle.quad.specs.Tree.{Tree, leaf, fork, son_of, under, shade, Within, Reduced, Coloured, tree_of, Shows}
use Rattle.quad.proofs.PathLaws.{half_last, shade_top, shade_leaf}
use Rattle.quad.proofs.TreeLaws.{
  by_quadrant,
  within_zero,
  within_son,
  within_sons,
  coloured_sons,
  reduced_son,
  join_son,
  join_reduced,
  same_sons,
}

-- a statement about each pixel of the block (X, Y) of level l
abbrev pub Pixels : (l X Y : ℕ) → (ℕ → ℕ → Type 0) → Type 0
Pixels l X Y P = (x y : ℕ) → x / 2 ^ l ≡ X → y / 2 ^ l ≡ Y → P x y

-- a pixel of a quarter is a pixel of the block, and the sheet's one block of level n has the pixels below 2 ^ n
pub block_up : (l x X i : ℕ) → i < 2 → x / 2 ^ l ≡ 2 * X + i → x / 2 ^ suc l ≡ X
block_up l x X i h e = omega (arith, half_last l x)

pub pixel_lt : (n x : ℕ) → x / 2 ^ n ≡ 0 → x < 2 ^ n
pixel_lt n x e = below_pow 0 n n x (omega arith) (omega arith)

-- a fork over what g gives for the four quarters of the block (X, Y): son q is the quarter of column q % 2 and row q /
-- 2
abbrev over : (ℕ → ℕ → Tree) → ℕ → ℕ → Tree
over g X Y = fork (g (2 * X) (2 * Y)) (g (2 * X + 1) (2 * Y)) (g (2 * X) (2 * Y + 1)) (g (2 * X + 1) (2 * Y + 1))

quarter : (g : ℕ → ℕ → Tree) (X Y q : ℕ) → q < 4 → son_of (over g X Y) q ≡ g (2 * X + q % 2) (2 * Y + q / 2)
unfolding son_of
quarter g X Y =
    by_quadrant (λ (q : ℕ). son_of (over g X Y) q ≡ g (2 * X + q % 2) (2 * Y + q / 2)) (simp add-zero) (simp add-zero) (simp add-zero) refl

-- reduced trees of level l that look alike in every pixel of a block are the same
pub same_tree : (l X Y : ℕ) (t u : Tree) → Within l t → Within l u → Reduced t → Reduced u
    → Pixels l X Y (λ x y. shade l t x y ≡ shade l u x y) → t ≡ u
same_tree zero X Y t u wt wu rt ru h =
    unfold shade path_of under in within_zero t wt ∙ ap leaf (h X Y (div-one X) (div-one Y)) ∙ sym (within_zero u wu)
same_tree (suc l) X Y t u wt wu rt ru h =
    same_sons t u rt ru (λ q hq.
    same_tree l (2 * X + q % 2) (2 * Y + q / 2) (son_of t q) (son_of u q) (within_son l t wt q) (within_son l u wu q) (reduced_son t rt q) (reduced_son u ru q)
    (λ x y hx hy.
    let e : quadrant_of (x / 2 ^ l) (y / 2 ^ l) ≡ q = omega arith in
    rw e at (sym (shade_top l t x y) ∙ h x y (block_up l x X _ (omega arith) hx) (block_up l y Y _ (omega arith) hy) ∙ shade_top l u x y)))

pub one_picture_one_tree : (n : ℕ) (t u : Tree) → Within n t → Within n u → Reduced t → Reduced u
    → ((x y : ℕ) → x < 2 ^ n → y < 2 ^ n → shade n t x y ≡ shade n u x y) → t ≡ u
one_picture_one_tree n t u wt wu rt ru h = same_tree n 0 0 t u wt wu rt ru (λ x y hx hy. h x y (pixel_lt n x hx) (pixel_lt n y hy))

module _ (f : ℕ → ℕ → ℕ) where
  -- son q of the picture's tree is the tree of quarter q
  pub tree_son : (l X Y q : ℕ) → q < 4 → son_of (tree_of f (suc l) X Y) q ≡ tree_of f l (2 * X + q % 2) (2 * Y + q / 2)
  unfolding tree_of
  tree_son l X Y q h = join_son _ _ _ _ q ∙ quarter (tree_of f l) X Y q h

  pub tree_within : (l X Y : ℕ) → Within l (tree_of f l X Y)
  tree_within zero X Y = unfold tree_of Within in tt
  tree_within (suc l) X Y = within_sons l _ (λ q h. rw (tree_son l X Y q h) (tree_within l (2 * X + q % 2) (2 * Y + q / 2)))

  pub tree_reduced : (l X Y : ℕ) → Reduced (tree_of f l X Y)
  unfolding tree_of
  tree_reduced zero X Y = unfold Reduced in tt
  tree_reduced (suc l) X Y =
      join_reduced _ _ _ _ (λ q h. rw (quarter (tree_of f l) X Y q h) (tree_reduced l (2 * X + q % 2) (2 * Y + q / 2)))

  -- it shows the picture
  pub tree_shade : (l X Y : ℕ) → Pixels l X Y (λ x y. shade l (tree_of f l X Y) x y ≡ f x y)
  unfolding tree_of
  tree_shade zero X Y x y hx hy =
      let ex : X ≡ x = omega arith in
      let ey : Y ≡ y = omega arith in
      shade_leaf 0 (f X Y) x y ∙ cc
  tree_shade (suc l) X Y x y hx hy =
      let q : ℕ = quadrant_of (x / 2 ^ l) (y / 2 ^ l) in
      shade_top l (tree_of f (suc l) X Y) x y
      ∙ rw (tree_son l X Y q (omega arith))
      (tree_shade l (2 * X + q % 2) (2 * Y + q / 2) x y (omega (arith, half_last l x)) (omega (arith, half_last l y)))

  pub tree_coloured : (l X Y : ℕ) → Pixels l X Y (λ x y. f x y ≤ top_colour) → Coloured (tree_of f l X Y)
  tree_coloured zero X Y h = unfold tree_of Coloured in h X Y (div-one X) (div-one Y)
  tree_coloured (suc l) X Y h =
      coloured_sons _ (λ q hq. rw (tree_son l X Y q hq)
      (tree_coloured l (2 * X + q % 2) (2 * Y + q / 2) (λ x y hx hy. h x y (block_up l x X _ (omega arith) hx) (block_up l y Y _ (omega arith) hy))))

  -- the picture has a tree
  pub built : (n : ℕ) → Shows f n (tree_of f n 0 0) × Within n (tree_of f n 0 0) × Reduced (tree_of f n 0 0)
  unfolding Shows
  built n = ((λ x y hx hy. tree_shade n 0 0 x y (div-eq_of_lt hx) (div-eq_of_lt hy)), tree_within n 0 0, tree_reduced n 0 0)

  -- and no other: in a block, and on the sheet
  pub one_tree_in : (l X Y : ℕ) (t : Tree) → Within l t → Reduced t → Pixels l X Y (λ x y. shade l t x y ≡ f x y) → t ≡ tree_of f l X Y
  one_tree_in l X Y t w r h =
      same_tree l X Y t _ w (tree_within l X Y) r (tree_reduced l X Y) (λ x y hx hy. h x y hx hy ∙ sym (tree_shade l X Y x y hx hy))

  pub one_tree : (n : ℕ) (t : Tree) → Within n t → Reduced t → Shows f n t → t ≡ tree_of f n 0 0
  unfolding Shows
  one_tree n t w r h = one_tree_in n 0 0 t w r (λ x y hx hy. h x y (pixel_lt n x hx) (pixel_lt n y hy))

-- pictures that agree in a block have one tree there
pub same_picture : (f g : ℕ → ℕ → ℕ) (l X Y : ℕ) → Pixels l X Y (λ x y. f x y ≡ g x y) → tree_of f l X Y ≡ tree_of g l X Y
same_picture f g l X Y h =
    one_tree_in g l X Y (tree_of f l X Y) (tree_within f l X Y) (tree_reduced f l X Y) (λ x y hx hy. tree_shade f l X Y x y hx hy ∙ h x y hx hy)
