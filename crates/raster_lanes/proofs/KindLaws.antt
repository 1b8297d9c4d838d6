-- A block's type and size by its pixels: like pixels are a leaf's, and four blocks are like leaves where the sum of all
-- their pixels says so.
use mathlib.Core.Bool.{Bool, true, false, cond, false≢true}
use mathlib.Core.Logic.{⊎_elim}
use mathlib.Core.Path.{◌≡◌, refl, ap, sym, ◌∙◌}
use Prim.Native.Nat.{ℕ, zero, suc, ◌+◌, ◌-◌, ◌*◌, ◌/◌, ◌%◌, ◌≤◌}
use native.Mathlib.Omega.{arith}
use lib.Dec.{eqb}
use borrow.Author.Tests.{eq-eqb, ne_eqb, eqb-true, eqb-false}
use Rattle.base.proofs.BoolLaws.{by_bool}
use Rattle.quad.specs.Numbers.{fork_type}
use Rattle.quad.specs.Tree.{Tree, leaf, fork, colour, same_leaf, alike, Coloured, Within, Reduced, size_of, join, like_types, tree_of}
use Rattle.quad.proofs.PathLaws.{shade_leaf}
use Rattle.quad.proofs.TreeLaws.{alike_leaves, alike_types}
use Rattle.quad.proofs.PictureLaws.{Pixels, tree_shade, one_tree_in, tree_coloured}
use Rattle.raster.specs.Sums.{four_sum, sixteen_sum, mixed_of, four_over}

-- a block's tree is the join of its quarters'
pub tree_quarters : (f : ℕ → ℕ → ℕ) (l x y : ℕ) → (l ≡ 0 → ⊥) → tree_of f l x y ≡ join (tree_of f (l - 1) (2 * x) (2 * y))
    (tree_of f (l - 1) (2 * x + 1) (2 * y)) (tree_of f (l - 1) (2 * x) (2 * y + 1)) (tree_of f (l - 1) (2 * x + 1) (2 * y + 1))
unfolding tree_of
tree_quarters f zero x y z = absurd (z refl)
tree_quarters f (suc l) x y z =
    let e : suc l - 1 ≡ l = omega arith in
    rw e

pub fork_unless : (t : Tree) → ((c : ℕ) → t ≡ leaf c → ⊥) → colour t ≡ fork_type
unfolding colour
fork_unless (leaf c) z = absurd (z c refl)
fork_unless (fork _ _ _ _) z = refl

leaf_kind : (c : ℕ) → colour (leaf c) ≡ c
unfolding colour
leaf_kind c = refl

-- like pixels are a leaf's, and a leaf's pixels are alike
module _ (f : ℕ → ℕ → ℕ) (l X Y c : ℕ) where
  pub alike_leaf : Pixels l X Y (λ x y. f x y ≡ c) → tree_of f l X Y ≡ leaf c
  unfolding Within Reduced
  alike_leaf h = sym (one_tree_in f l X Y (leaf c) tt tt (λ x y hx hy. shade_leaf l c x y ∙ sym (h x y hx hy)))

  pub leaf_alike : tree_of f l X Y ≡ leaf c → Pixels l X Y (λ x y. f x y ≡ c)
  leaf_alike e x y hx hy = sym (tree_shade f l X Y x y hx hy) ∙ rw e (shade_leaf l c x y)

-- four quarters that are no like leaves
join_fork : (A B C D : Tree) → (alike A B C D ≡ true → ⊥) → join A B C D ≡ fork A B C D
unfolding join
join_fork A B C D z = go (alike A B C D) refl
  where
    go : (u : Bool) → alike A B C D ≡ u → join A B C D ≡ fork A B C D
    go true q = absurd (z q)
    go false q = rw q

join_leaf : (A B C D : Tree) → alike A B C D ≡ true → join A B C D ≡ leaf (colour A)
unfolding join
join_leaf A B C D q = rw q (sym (alike_leaves A B C D q).0)

pub mixed_like : (s k : ℕ) → s % k ≡ 0 → mixed_of s k ≡ 0
unfolding mixed_of
mixed_like s k e = rw (mixed_of, eq-eqb (s % k) 0 e)

pub mixed_unlike : (s k : ℕ) → (s % k ≡ 0 → ⊥) → mixed_of s k ≡ 1
unfolding mixed_of
mixed_unlike s k z = rw (mixed_of, ne_eqb (s % k) 0 z)

module _ (f : ℕ → ℕ → ℕ) (few : (x y : ℕ) → f x y ≤ 1) (x y : ℕ) where
  pub four_few : four_sum f x y ≤ 4
  unfolding four_sum
  four_few = omega (arith, few (2 * x) (2 * y), few (2 * x + 1) (2 * y), few (2 * x) (2 * y + 1), few (2 * x + 1) (2 * y + 1))

  -- four pixels
  pub four_leaf : (k : ℕ) → four_sum f x y ≡ 4 * k → tree_of f 1 x y ≡ leaf k
  unfolding four_sum tree_of join same_leaf
  four_leaf k e =
      let a = few (2 * x) (2 * y) in
      let b = few (2 * x + 1) (2 * y) in
      let c = few (2 * x) (2 * y + 1) in
      let d = few (2 * x + 1) (2 * y + 1) in
      rw (eq-eqb (f (2 * x) (2 * y)) (f (2 * x + 1) (2 * y)) (omega arith), eq-eqb (f (2 * x) (2 * y)) (f (2 * x) (2 * y + 1)) (omega arith), eq-eqb (f (2 * x) (2 * y)) (f (2 * x + 1) (2 * y + 1)) (omega arith))
      (ap leaf (omega arith))

  pub leaf_four : (k : ℕ) → tree_of f 1 x y ≡ leaf k → four_sum f x y ≡ 4 * k
  unfolding four_sum
  leaf_four k e =
      let p = leaf_alike f 1 x y k e in
      omega (arith, p (2 * x) (2 * y) (omega arith) (omega arith), p (2 * x + 1) (2 * y) (omega arith) (omega arith), p (2 * x) (2 * y + 1) (omega arith) (omega arith), p (2 * x + 1) (2 * y + 1) (omega arith) (omega arith))

  pub four_fork : (four_sum f x y % 4 ≡ 0 → ⊥) → tree_of f 1 x y ≡ four_over f 0 x y
  four_fork z =
      let q = tree_quarters f 1 x y (λ z. omega arith) in
      q ∙ join_fork _ _ _ _ (λ t. z (omega (arith, leaf_four (colour (tree_of f 0 (2 * x) (2 * y))) (q ∙ join_leaf _ _ _ _ t))))

  pub four_size : size_of (tree_of f 1 x y) ≡ 1 + 4 * mixed_of (four_sum f x y) 4
  four_size =
      ⊎_elim
      (λ (q : eqb (four_sum f x y % 4) 0 ≡ true).
      let e = eqb-true (four_sum f x y % 4) 0 q in
      rw (mixed_like (four_sum f x y) 4 e, four_leaf (four_sum f x y / 4) (omega arith)) (unfold size_of in refl))
      (λ (q : eqb (four_sum f x y % 4) 0 ≡ false).
      let z = eqb-false (four_sum f x y % 4) 0 q in
      rw (mixed_unlike (four_sum f x y) 4 z, four_fork z) (unfold size_of tree_of in refl))
      (by_bool (eqb (four_sum f x y % 4) 0))

  pub five_nodes : colour (tree_of f 1 x y) ≡ fork_type → 5 ≡ size_of (tree_of f 1 x y)
  five_nodes e =
      ⊎_elim
      (λ (q : eqb (four_sum f x y % 4) 0 ≡ true).
      let s = eqb-true (four_sum f x y % 4) 0 q in
      let two : four_sum f x y / 4 ≡ fork_type = sym (leaf_kind (four_sum f x y / 4)) ∙ rw (four_leaf (four_sum f x y / 4) (omega arith)) at e in
      absurd (omega (arith, four_few)))
      (λ (q : eqb (four_sum f x y % 4) 0 ≡ false). rw (four_fork (eqb-false (four_sum f x y % 4) 0 q)) (unfold size_of tree_of in refl))
      (by_bool (eqb (four_sum f x y % 4) 0))

-- four blocks of four pixels
module _ (f : ℕ → ℕ → ℕ) (few : (x y : ℕ) → f x y ≤ 1) (x y : ℕ) where
  sixteen_four : sixteen_sum f x y ≡ four_sum f (2 * x) (2 * y) + four_sum f (2 * x + 1) (2 * y) + four_sum f (2 * x) (2 * y + 1) + four_sum f (2 * x + 1) (2 * y + 1)
  unfolding sixteen_sum
  sixteen_four = refl

  pub sixteen_leaf : (k : ℕ) → sixteen_sum f x y ≡ 16 * k → tree_of f 2 x y ≡ leaf k
  unfolding sixteen_sum
  sixteen_leaf k e =
      let a = four_few f few (2 * x) (2 * y) in
      let b = four_few f few (2 * x + 1) (2 * y) in
      let c = four_few f few (2 * x) (2 * y + 1) in
      let d = four_few f few (2 * x + 1) (2 * y + 1) in
      let ta = four_leaf f few (2 * x) (2 * y) k (omega arith) in
      let tb = four_leaf f few (2 * x + 1) (2 * y) k (omega arith) in
      let tc = four_leaf f few (2 * x) (2 * y + 1) k (omega arith) in
      let td = four_leaf f few (2 * x + 1) (2 * y + 1) k (omega arith) in
      tree_quarters f 2 x y (λ z. omega arith) ∙ rw (ta, tb, tc, td) (unfold join same_leaf in rw (eq-eqb k k refl))

  pub sixteen_fork : (sixteen_sum f x y % 16 ≡ 0 → ⊥) → tree_of f 2 x y ≡ four_over f 1 x y
  unfolding sixteen_sum
  sixteen_fork z =
      tree_quarters f 2 x y (λ z. omega arith)
      ∙ join_fork _ _ _ _ (λ q.
      let l = alike_leaves _ _ _ _ q in
      let k : ℕ = colour (tree_of f 1 (2 * x) (2 * y)) in
      z (omega (arith, leaf_four f few (2 * x) (2 * y) k (sym l.0), leaf_four f few (2 * x + 1) (2 * y) k (sym l.1), leaf_four f few (2 * x) (2 * y + 1) k (sym l.2), leaf_four f few (2 * x + 1) (2 * y + 1) k (sym l.3))))

  pub sixteen_size : (m : ℕ) → m ≡ mixed_of (four_sum f (2 * x) (2 * y)) 4 + mixed_of (four_sum f (2 * x + 1) (2 * y)) 4 + mixed_of (four_sum f (2 * x) (2 * y + 1)) 4 + mixed_of (four_sum f (2 * x + 1) (2 * y + 1)) 4
      → 1 + 4 * (m + mixed_of (sixteen_sum f x y) 16) ≡ size_of (tree_of f 2 x y)
  unfolding size_of
  sixteen_size m e =
      let a = four_few f few (2 * x) (2 * y) in
      let b = four_few f few (2 * x + 1) (2 * y) in
      let c = four_few f few (2 * x) (2 * y + 1) in
      let d = four_few f few (2 * x + 1) (2 * y + 1) in
      ⊎_elim
      (λ (q : eqb (sixteen_sum f x y % 16) 0 ≡ true).
      let z = eqb-true (sixteen_sum f x y % 16) 0 q in
      let k : ℕ = sixteen_sum f x y / 16 in
      let s : sixteen_sum f x y ≡ 16 * k = omega arith in
      let all = sixteen_four in
      rw (sixteen_leaf k s, mixed_like (sixteen_sum f x y) 16 z)
      (omega (arith, e, mixed_like (four_sum f (2 * x) (2 * y)) 4 (omega arith), mixed_like (four_sum f (2 * x + 1) (2 * y)) 4 (omega arith), mixed_like (four_sum f (2 * x) (2 * y + 1)) 4 (omega arith), mixed_like (four_sum f (2 * x + 1) (2 * y + 1)) 4 (omega arith))))
      (λ (q : eqb (sixteen_sum f x y % 16) 0 ≡ false).
      let z = eqb-false (sixteen_sum f x y % 16) 0 q in
      rw (sixteen_fork z, mixed_unlike (sixteen_sum f x y) 16 z)
      (omega (arith, e, four_size f few (2 * x) (2 * y), four_size f few (2 * x + 1) (2 * y), four_size f few (2 * x) (2 * y + 1), four_size f few (2 * x + 1) (2 * y + 1))))
      (by_bool (eqb (sixteen_sum f x y % 16) 0))

  pub sixteen_sum_lem : (a b c d : ℕ)
      → a ≡ four_sum f (2 * x) (2 * y) → b ≡ four_sum f (2 * x + 1) (2 * y) → c ≡ four_sum f (2 * x) (2 * y + 1) → d ≡ four_sum f (2 * x + 1) (2 * y + 1)
      → a + b + c + d ≡ sixteen_sum f x y
  sixteen_sum_lem a b c d ea eb ec ed = omega (arith, sixteen_four)

  pub sixteen_count : (a b c d ma mb mc md m : ℕ)
      → a ≡ four_sum f (2 * x) (2 * y) → b ≡ four_sum f (2 * x + 1) (2 * y) → c ≡ four_sum f (2 * x) (2 * y + 1) → d ≡ four_sum f (2 * x + 1) (2 * y + 1)
      → ma ≡ mixed_of a 4 → mb ≡ mixed_of b 4 → mc ≡ mixed_of c 4 → md ≡ mixed_of d 4 → m ≡ mixed_of (a + b + c + d) 16
      → 1 + 4 * (ma + mb + mc + md + m) ≡ size_of (tree_of f 2 x y)
  sixteen_count a b c d ma mb mc md m ea eb ec ed fa fb fc fd fm =
      let four : ℕ → ℕ = λ s. mixed_of s 4 in
      let all = fm ∙ ap (λ (s : ℕ). mixed_of s 16) (sixteen_sum_lem a b c d ea eb ec ed) in
      omega (arith, sixteen_size (ma + mb + mc + md) (omega (arith, fa ∙ ap four ea, fb ∙ ap four eb, fc ∙ ap four ec, fd ∙ ap four ed)))

-- a leaf of a colour is no fork
fork_no_colour : (c : ℕ) → Coloured (leaf c) → colour (leaf c) ≡ fork_type → ⊥
unfolding Coloured colour
fork_no_colour c le e = absurd (omega arith)

-- a block from its quarters: its type, and its size where it is a fork
module _ (f : ℕ → ℕ → ℕ) (few : (x y : ℕ) → f x y ≤ 1) (l x y : ℕ) where
  quarters : tree_of f (suc l) x y ≡ join (tree_of f l (2 * x) (2 * y)) (tree_of f l (2 * x + 1) (2 * y)) (tree_of f l (2 * x) (2 * y + 1)) (tree_of f l (2 * x + 1) (2 * y + 1))
  unfolding tree_of
  quarters = refl

  leaf_or_fork : (A B C D : Tree) → alike A B C D ≡ false → join A B C D ≡ fork A B C D
  leaf_or_fork A B C D q = join_fork A B C D (λ t. absurd (false≢true (sym q ∙ t)))

  pub joined_kind : (a b c d : ℕ) → a ≡ colour (tree_of f l (2 * x) (2 * y)) → b ≡ colour (tree_of f l (2 * x + 1) (2 * y))
      → c ≡ colour (tree_of f l (2 * x) (2 * y + 1)) → d ≡ colour (tree_of f l (2 * x + 1) (2 * y + 1))
      → colour (tree_of f (suc l) x y) ≡ cond (like_types a b c d) a fork_type
  joined_kind a b c d ea eb ec ed =
      let first = tree_coloured f l (2 * x) (2 * y) (λ i j hi hj. few i j) in
      let same = rw (← ea, ← eb, ← ec, ← ed) at (alike_types (tree_of f l (2 * x) (2 * y)) (tree_of f l (2 * x + 1) (2 * y)) (tree_of f l (2 * x) (2 * y + 1)) (tree_of f l (2 * x + 1) (2 * y + 1)) first) in
      ⊎_elim
      (λ (q : like_types a b c d ≡ true). rw (q, quarters, join_leaf _ _ _ _ (same ∙ q), ea) (leaf_kind _))
      (λ (q : like_types a b c d ≡ false). rw (q, quarters, leaf_or_fork _ _ _ _ (same ∙ q)) (unfold colour in refl))
      (by_bool (like_types a b c d))

  pub fork_nodes : colour (tree_of f (suc l) x y) ≡ fork_type
      → size_of (tree_of f (suc l) x y) ≡ 1 + (size_of (tree_of f l (2 * x) (2 * y)) + (size_of (tree_of f l (2 * x + 1) (2 * y)) + (size_of (tree_of f l (2 * x) (2 * y + 1)) + size_of (tree_of f l (2 * x + 1) (2 * y + 1)))))
  fork_nodes k =
      ⊎_elim
      (λ (q : alike (tree_of f l (2 * x) (2 * y)) (tree_of f l (2 * x + 1) (2 * y)) (tree_of f l (2 * x) (2 * y + 1)) (tree_of f l (2 * x + 1) (2 * y + 1)) ≡ true).
      let t = quarters ∙ join_leaf _ _ _ _ q in
      let le = tree_coloured f (suc l) x y (λ i j hi hj. few i j) in
      absurd (fork_no_colour _ (rw t at le) (rw t at k)))
      (λ (q : alike (tree_of f l (2 * x) (2 * y)) (tree_of f l (2 * x + 1) (2 * y)) (tree_of f l (2 * x) (2 * y + 1)) (tree_of f l (2 * x + 1) (2 * y + 1)) ≡ false).
      rw (quarters, leaf_or_fork _ _ _ _ q) (unfold size_of in refl))
      (by_bool (alike (tree_of f l (2 * x) (2 * y)) (tree_of f l (2 * x + 1) (2 * y)) (tree_of f l (2 * x) (2 * y + 1)) (tree_of f l (2 * x + 1) (2 * y + 1))))

pub quarters_alike : (f : ℕ → ℕ → ℕ) (l x y c : ℕ) → tree_of f l (2 * x) (2 * y) ≡ leaf c → tree_of f l (2 * x + 1) (2 * y) ≡ leaf c
    → tree_of f l (2 * x) (2 * y + 1) ≡ leaf c → tree_of f l (2 * x + 1) (2 * y + 1) ≡ leaf c → tree_of f (suc l) x y ≡ leaf c
unfolding tree_of join same_leaf
quarters_alike f l x y c ea eb ec ed = rw (ea, eb, ec, ed, eq-eqb c c refl)
