-- The sum of a block's rows tells its type: like pixels give 0 or the most, and 0 or the most come from like pixels
-- alone.
use mathlib.Core.Bool.{true, false}
use mathlib.Core.List.{List}
use mathlib.Core.Logic.{⊎_elim}
use mathlib.Core.Path.{◌≡◌, refl, sym, ◌∙◌}
use Prim.Native.Nat.{ℕ, zero, suc, ◌+◌, ◌*◌, ◌/◌, ◌%◌, ◌≤◌, ◌<◌}
use native.Mathlib.Omega.{arith}
use lib.Dec.{eqb}
use borrow.Author.Tests.{eqb-true, eqb-false}
use Rattle.base.proofs.BoolLaws.{by_bool}
use Rattle.quad.specs.Numbers.{fork_type}
use Rattle.quad.specs.Tree.{Tree, leaf, son_of, colour, Coloured, size_of, tree_of}
use Rattle.quad.proofs.PictureLaws.{tree_son, tree_within, tree_coloured}
use Rattle.quad.proofs.TreeLaws.{leaf_by_type, size_le}
use Rattle.raster.specs.Sums.{Colours, four_sum, sixteen_sum}
use Rattle.raster_lanes.specs.Lanes.{window, black_row, two_rows, four_rows, eight_rows, kind_of}
use Rattle.raster_lanes.proofs.KindLaws.{four_few, four_leaf, leaf_four, alike_leaf, leaf_alike, fork_unless, quarters_alike}
use Rattle.raster_lanes.proofs.WindowLaws.{row_of, eight_row, window_few, window_moved}

-- the sum s, which is m for black pixels, tells the tree t
pub record Tells (t : Tree) (m s : ℕ) : Type 0 where
  pub most : s ≤ m
  pub white : s ≡ 0 → t ≡ leaf 0
  pub black : s ≡ m → t ≡ leaf 1
  pub none : t ≡ leaf 0 → s ≡ 0
  pub all : t ≡ leaf 1 → s ≡ m

pub told_kind : (t : Tree) (m s : ℕ) → Coloured t → Tells t m s → kind_of s m ≡ colour t
unfolding kind_of colour
told_kind t m s h d =
    ⊎_elim
    (λ (q : eqb s 0 ≡ true). rw (kind_of, q, d.white (eqb-true s 0 q)))
    (λ (q : eqb s 0 ≡ false).
    ⊎_elim
    (λ (p : eqb s m ≡ true). rw (kind_of, q, p, d.black (eqb-true s m p)))
    (λ (p : eqb s m ≡ false). rw (kind_of, q, p) (sym (fork_unless t (λ c e. other c e h (eqb-false s 0 q) (eqb-false s m p)))))
    (by_bool (eqb s m)))
    (by_bool (eqb s 0))
  where
    other : (c : ℕ) → t ≡ leaf c → Coloured t → (s ≡ 0 → ⊥) → (s ≡ m → ⊥) → ⊥
    other zero e h z y = z (d.none e)
    other (suc zero) e h z y = y (d.all e)
    other (suc (suc c)) e h z y = absurd (unfold Coloured in omega (arith, rw e at h))

-- four quarters
pub told_four : (f : ℕ → ℕ → ℕ) (l x y m i j k n : ℕ) → Tells (tree_of f l (2 * x) (2 * y)) m i → Tells (tree_of f l (2 * x + 1) (2 * y)) m j
    → Tells (tree_of f l (2 * x) (2 * y + 1)) m k → Tells (tree_of f l (2 * x + 1) (2 * y + 1)) m n → Tells (tree_of f (suc l) x y) (4 * m) (i + j + k + n)
told_four f l x y m i j k n a b c d = record {
  most = omega (arith, a.most, b.most, c.most, d.most);
  white = λ e. quarters_alike f l x y 0 (a.white (omega arith)) (b.white (omega arith)) (c.white (omega arith)) (d.white (omega arith));
  black = λ e. quarters_alike f l x y 1 (a.black (omega (arith, a.most, b.most, c.most, d.most))) (b.black (omega (arith, a.most, b.most, c.most, d.most))) (c.black (omega (arith, a.most, b.most, c.most, d.most))) (d.black (omega (arith, a.most, b.most, c.most, d.most)));
  none = λ e. omega (arith, a.none (part 0 e 0 (omega arith) (2 * x) (2 * y) (omega arith) (omega arith)), b.none (part 0 e 1 (omega arith) (2 * x + 1) (2 * y) (omega arith) (omega arith)), c.none (part 0 e 2 (omega arith) (2 * x) (2 * y + 1) (omega arith) (omega arith)), d.none (part 0 e 3 (omega arith) (2 * x + 1) (2 * y + 1) (omega arith) (omega arith)));
  all = λ e. omega (arith, a.all (part 1 e 0 (omega arith) (2 * x) (2 * y) (omega arith) (omega arith)), b.all (part 1 e 1 (omega arith) (2 * x + 1) (2 * y) (omega arith) (omega arith)), c.all (part 1 e 2 (omega arith) (2 * x) (2 * y + 1) (omega arith) (omega arith)), d.all (part 1 e 3 (omega arith) (2 * x + 1) (2 * y + 1) (omega arith) (omega arith)));
}
  where
    part : (h : ℕ) → tree_of f (suc l) x y ≡ leaf h → (q : ℕ) → q < 4 → (u v : ℕ) → 2 * x + q % 2 ≡ u → 2 * y + q / 2 ≡ v → tree_of f l u v ≡ leaf h
    part h e q lt u v eu ev = rw (← eu, ← ev) (sym (tree_son f l x y q lt) ∙ rw e (unfold son_of in refl))

-- four pixels, and sixteen
module _ (f : ℕ → ℕ → ℕ) (few : (x y : ℕ) → f x y ≤ 1) (x y : ℕ) where
  pub told_pixels : Tells (tree_of f 1 x y) 4 (four_sum f x y)
  told_pixels = record {
    most = four_few f few x y;
    white = λ e. four_leaf f few x y 0 e;
    black = λ e. four_leaf f few x y 1 e;
    none = λ e. leaf_four f few x y 0 e;
    all = λ e. leaf_four f few x y 1 e;
  }

pub told_sixteen : (f : ℕ → ℕ → ℕ) → ((x y : ℕ) → f x y ≤ 1) → (x y : ℕ) → Tells (tree_of f 2 x y) 16 (sixteen_sum f x y)
unfolding sixteen_sum
told_sixteen f few x y =
    told_four f 1 x y 4 _ _ _ _ (told_pixels f few (2 * x) (2 * y)) (told_pixels f few (2 * x + 1) (2 * y)) (told_pixels f few (2 * x) (2 * y + 1)) (told_pixels f few (2 * x + 1) (2 * y + 1))

by_eight : (P : ℕ → Type 0) → P 0 → P 1 → P 2 → P 3 → P 4 → P 5 → P 6 → P 7 → (i : ℕ) → i < 8 → P i
by_eight P a b c d e f g h zero lt = a
by_eight P a b c d e f g h (suc zero) lt = b
by_eight P a b c d e f g h (suc (suc zero)) lt = c
by_eight P a b c d e f g h (suc (suc (suc zero))) lt = d
by_eight P a b c d e f g h (suc (suc (suc (suc zero)))) lt = e
by_eight P a b c d e f g h (suc (suc (suc (suc (suc zero))))) lt = f
by_eight P a b c d e f g h (suc (suc (suc (suc (suc (suc zero)))))) lt = g
by_eight P a b c d e f g h (suc (suc (suc (suc (suc (suc (suc zero))))))) lt = h
by_eight P a b c d e f g h (suc (suc (suc (suc (suc (suc (suc (suc i)))))))) lt = absurd (omega arith)

-- a row of eight pixels
module _ (g : ℕ → ℕ → ℕ) (few : (i j : ℕ) → g i j ≤ 1) (j : ℕ) where
  row_most : row_of g j ≤ black_row
  unfolding row_of
  row_most = omega (arith, few 0 j, few 1 j, few 2 j, few 3 j, few 4 j, few 5 j, few 6 j, few 7 j)

  row_white : row_of g j ≡ 0 → (i : ℕ) → i < 8 → g i j ≡ 0
  unfolding row_of
  row_white e = by_eight (λ i. g i j ≡ 0) (omega arith) (omega arith) (omega arith) (omega arith) (omega arith) (omega arith) (omega arith) (omega arith)

  row_none : ((i : ℕ) → i < 8 → g i j ≡ 0) → row_of g j ≡ 0
  unfolding row_of
  row_none p = omega (arith, p 0 (omega arith), p 1 (omega arith), p 2 (omega arith), p 3 (omega arith), p 4 (omega arith), p 5 (omega arith), p 6 (omega arith), p 7 (omega arith))

  row_all : ((i : ℕ) → i < 8 → g i j ≡ 1) → row_of g j ≡ black_row
  unfolding row_of
  row_all p = omega (arith, p 0 (omega arith), p 1 (omega arith), p 2 (omega arith), p 3 (omega arith), p 4 (omega arith), p 5 (omega arith), p 6 (omega arith), p 7 (omega arith))

  row_black : row_of g j ≡ black_row → (i : ℕ) → i < 8 → g i j ≡ 1
  unfolding row_of
  row_black e =
      let a = few 0 j in
      let b = few 1 j in
      let c = few 2 j in
      let d = few 3 j in
      let h = few 4 j in
      let k = few 5 j in
      let l = few 6 j in
      let m = few 7 j in
      by_eight (λ i. g i j ≡ 1) (omega arith) (omega arith) (omega arith) (omega arith) (omega arith) (omega arith) (omega arith) (omega arith)

-- eight rows
module _ (R : List ℕ) (w a : ℕ) (colours : Colours R) where
  abbrev pixel : ℕ → ℕ → ℕ
  pixel = window R w a

  few : (i j : ℕ) → pixel i j ≤ 1
  few = window_few R w a colours

  rows_are : eight_rows R w a ≡ row_of pixel 0 + row_of pixel 1 + row_of pixel 2 + row_of pixel 3 + row_of pixel 4 + row_of pixel 5 + row_of pixel 6 + row_of pixel 7
  unfolding eight_rows four_rows two_rows
  rows_are =
      rw (eight_row R w a 0 a (omega arith), eight_row R w a 1 (a + w) (omega arith), eight_row R w a 2 (a + 2 * w) (omega arith), eight_row R w a 3 (a + 2 * w + w) (omega arith), eight_row R w a 4 (a + 4 * w) (omega arith), eight_row R w a 5 (a + 4 * w + w) (omega arith), eight_row R w a 6 (a + 4 * w + 2 * w) (omega arith), eight_row R w a 7 (a + 4 * w + 2 * w + w) (omega arith))
      (omega arith)

  by_pixels : (c : ℕ) → ((j : ℕ) → j < 8 → (i : ℕ) → i < 8 → pixel i j ≡ c) → tree_of pixel 3 0 0 ≡ leaf c
  by_pixels c h = alike_leaf pixel 3 0 0 c (λ x y hx hy. h y (omega arith) x (omega arith))

  its_pixels : (c : ℕ) → tree_of pixel 3 0 0 ≡ leaf c → (j : ℕ) → (i : ℕ) → i < 8 → j < 8 → pixel i j ≡ c
  its_pixels c e j i hi hj = leaf_alike pixel 3 0 0 c e i j (omega arith) (omega arith)

  pub told_eight : Tells (tree_of pixel 3 0 0) (8 * black_row) (eight_rows R w a)
  told_eight =
      let few-in : (j : ℕ) → row_of pixel j ≤ black_row = row_most pixel few in
      let is = rows_are in
      let a0 = few-in 0 in
      let a1 = few-in 1 in
      let a2 = few-in 2 in
      let a3 = few-in 3 in
      let a4 = few-in 4 in
      let a5 = few-in 5 in
      let a6 = few-in 6 in
      let a7 = few-in 7 in
      record {
        most = omega arith;
        white = λ e.
            by_pixels 0 (λ j hj. row_white pixel few j (by_eight (λ j. row_of pixel j ≡ 0) (omega arith) (omega arith) (omega arith) (omega arith) (omega arith) (omega arith) (omega arith) (omega arith) j hj));
        black = λ e.
            by_pixels 1 (λ j hj. row_black pixel few j (by_eight (λ j. row_of pixel j ≡ black_row) (omega arith) (omega arith) (omega arith) (omega arith) (omega arith) (omega arith) (omega arith) (omega arith) j hj));
        none = λ e.
            let row : (j : ℕ) → j < 8 → row_of pixel j ≡ 0 = λ j hj. row_none pixel few j (λ i hi. its_pixels 0 e j i hi hj) in
            omega (arith, row 0 (omega arith), row 1 (omega arith), row 2 (omega arith), row 3 (omega arith), row 4 (omega arith), row 5 (omega arith), row 6 (omega arith), row 7 (omega arith));
        all = λ e.
            let row : (j : ℕ) → j < 8 → row_of pixel j ≡ black_row = λ j hj. row_all pixel few j (λ i hi. its_pixels 1 e j i hi hj) in
            omega (arith, row 0 (omega arith), row 1 (omega arith), row 2 (omega arith), row 3 (omega arith), row 4 (omega arith), row 5 (omega arith), row 6 (omega arith), row 7 (omega arith));
      }

  pub window_coloured : (l x y : ℕ) → Coloured (tree_of pixel l x y)
  window_coloured l x y = tree_coloured pixel l x y (λ i j hi hj. few i j)

  pub block_kind : (k s : ℕ) → s ≡ eight_rows R w a → k ≡ kind_of s (8 * black_row) → k ≡ colour (tree_of pixel 3 0 0)
  block_kind k s e h = h ∙ rw e (told_kind _ _ _ (window_coloured 3 0 0) told_eight)

-- the four quarters of a block of level 4
pub told_quarters : (R : List ℕ) (w a : ℕ) → Colours R
    → Tells (tree_of (window R w a) 4 0 0) (32 * black_row) (eight_rows R w a + eight_rows R w (a + 8) + eight_rows R w (a + 8 * w) + eight_rows R w (a + 8 * w + 8))
told_quarters R w a colours =
    told_four (window R w a) 3 0 0 (8 * black_row) _ _ _ _
    (told_eight R w a colours)
    (rw (← window_moved R w a (a + 8) 3 1 0 (omega arith)) (told_eight R w (a + 8) colours))
    (rw (← window_moved R w a (a + 8 * w) 3 0 1 (omega arith)) (told_eight R w (a + 8 * w) colours))
    (rw (← window_moved R w a (a + 8 * w + 8) 3 1 1 (omega arith)) (told_eight R w (a + 8 * w + 8) colours))

pub leaf_nodes : (t : Tree) → (colour t ≡ fork_type → ⊥) → 1 ≡ size_of t
unfolding size_of
leaf_nodes t z = rw (leaf_by_type t z)

pub block_few : (f : ℕ → ℕ → ℕ) (x y : ℕ) → size_of (tree_of f 3 x y) ≤ 85
block_few f x y = omega (arith, size_le 3 (tree_of f 3 x y) (tree_within f 3 x y))
