-- A block filled row by row, and a sheet painted quarter by quarter: which pixels a step reaches is a test, and the
-- tests of the steps add up to the block's.
use mathlib.Core.Bool.{Bool, true, false, cond, ◌&&◌, ◌||◌, false≢true}
use mathlib.Core.List.{List}
use mathlib.Core.Logic.{⊎_elim}
use mathlib.Core.Path.{◌≡◌, refl, ap, sym, subst, ◌∙◌}
use Prim.Native.Nat.{ℕ, suc, ◌+◌, ◌-◌, ◌*◌, ◌/◌, ◌%◌, ◌^◌, ◌≤◌, ◌<◌}
use native.Mathlib.Nat.{add-zero, mul-one, eq-or-lt_of_le, suc-mul, mul-le-mul_right, mod-lt}
use native.Mathlib.Omega.{arith}
use lib.Dec.{leb, ltb, eqb}
use lib.ListN.{length, get_or, set, length-set, replicate}
use lib.Seq.{get_or-set_same, get_or-set_other}
use lib.Pow.{pow_pos, split, high}
use borrow.Rule.Slice.PartMut.{put_mid, mid_of}
use Rattle.std.proofs.Common.{rules}
use Rattle.std.proofs.lemmas.List.{places}
use borrow.Author.Tests.{eq-eqb, ne_eqb, eqb-true, eqb-false, lt-ltb, le-ltb, le-leb, ltb-true, leb-true}
use Rattle.base.proofs.BoolLaws.{and_left, and_right, and_both, and_false, or_true, or_second, same_tests, by_bool, lt_or_ge}
use Rattle.quad.specs.Numbers.{fork_type}
use Rattle.quad.specs.Block.{quadrant_of}
use Rattle.quad.specs.Tree.{son_of}
use Rattle.quad.proofs.PathLaws.{half_last, shade_top, shade_leaf}
use Rattle.table.specs.Table.{son, node_type, is_fork}
use Rattle.table.specs.Rules.{AtLevel}
use Rattle.table.specs.Nodes.{tree_at}
use Rattle.table.proofs.AcceptedLaws.{tree_leaf, son_at}
use Rattle.table.proofs.PictureLaws.{tree_son as table-son}
use Rattle.raster.proofs.BlockLaws.{block_fits, place_lt}
use Rattle.raster.specs.Blocks.{OnSheet}
use Rattle.raster_fill.specs.Painting.{among, BytesFilled, Painted, in_block, in_the_rows, in_quarters, colours_at, Paintable}

-- places in one row of a sheet of side s, both between its ends, are in the same row
same_row : (y t s x left : ℕ) → x < s → t * s + left ≤ y * s + x → y * s + x < t * s + s → y ≡ t
same_row y t s x left lt lo hi =
    ⊎_elim
    (λ (l : y < t). absurd (omega (arith, suc-mul y s, mul-le-mul_right s l)))
    (λ (g : t ≤ y).
    ⊎_elim (λ (q : t ≡ y). sym q) (λ (l : t < y). absurd (omega (arith, suc-mul t s, mul-le-mul_right s l))) (eq-or-lt_of_le g))
    (lt_or_ge y t)

within_in : (a w k : ℕ) → among a w k ≡ true → (a ≤ k) × (k < a + w)
unfolding among
within_in a w k e = (leb-true a k (and_left (leb a k) (ltb k (a + w)) e), ltb-true k (a + w) (and_right (leb a k) (ltb k (a + w)) e))

within_of : (a w k : ℕ) → a ≤ k → k < a + w → among a w k ≡ true
unfolding among
within_of a w k le lt = and_both _ _ (le-leb a k le) (lt-ltb k (a + w) lt)

-- none, and one more
within_none : (a k : ℕ) → among a 0 k ≡ false
within_none a k = same_tests _ _ (λ e. absurd (omega (arith, within_in a 0 k e))) (λ e. absurd (false≢true e))

within_more : (a w k : ℕ) → among a (w + 1) k ≡ eqb k (a + w) || among a w k
within_more a w k =
    same_tests _ _
    (λ e.
    let h : (a ≤ k) × (k < a + (w + 1)) = within_in a (w + 1) k e in
    ⊎_elim
    (λ (l : k < a + w). rw (within_of a w k (omega arith) l) (or_true (eqb k (a + w))))
    (λ (g : a + w ≤ k). rw (eq-eqb k (a + w) (omega arith)))
    (lt_or_ge k (a + w)))
    (λ e.
    ⊎_elim
    (λ (q : eqb k (a + w) ≡ true). within_of a (w + 1) k (omega (arith, eqb-true k (a + w) q)) (omega (arith, eqb-true k (a + w) q)))
    (λ (q : eqb k (a + w) ≡ false).
    let h : (a ≤ k) × (k < a + w) = within_in a w k (or_second (eqb k (a + w)) (among a w k) e q) in
    within_of a (w + 1) k (omega arith) (omega arith))
    (by_bool (eqb k (a + w))))

-- one byte more
pub filled_none : (a c : ℕ) (U : List ℕ) → BytesFilled a 0 c U U
filled_none a c U = record { size = refl; bytes = λ k. rw (within_none a k) }

pub filled_more : (a i c : ℕ) (U W : List ℕ) → a + i < length W → BytesFilled a i c U W → BytesFilled a (i + 1) c U (set W (a + i) c)
filled_more a i c U W lt f = record { size = length-set W (a + i) c ∙ f.size; bytes = λ k. go k (eqb k (a + i)) refl }
  where
    go : (k : ℕ) (u : Bool) → eqb k (a + i) ≡ u → get_or (set W (a + i) c) k 0 ≡ cond (among a (i + 1) k) c (get_or U k 0)
    go k true q =
        let e : k ≡ a + i = eqb-true k (a + i) q in
        rw (within_more a i k, q) (rw e (get_or-set_same W (a + i) c 0 lt))
    go k false q = rw (within_more a i k, q) (get_or-set_other W (a + i) k c 0 (eqb-false k (a + i) q) ∙ f.bytes k)

-- a row written as one part of the raster
pub filled_part : (a w k c : ℕ) (U V : List ℕ) → a + w ≤ length U → k ≡ w → V ≡ replicate (length (mid_of a k U)) c → BytesFilled a w c U (put_mid a k U V)
filled_part a w k c U V fits kw e =
    let long : length (mid_of a w U) ≡ w = search (rules, places) in
    rw (e, kw, long) record { size = search (rules, places); bytes = λ i. go i (among a w i) refl }
  where
    go : (i : ℕ) (u : Bool) → among a w i ≡ u → get_or (put_mid a w U (replicate w c)) i 0 ≡ cond (among a w i) c (get_or U i 0)
    go i true q =
        let h : (a ≤ i) × (i < a + w) = within_in a w i q in
        rw q (grind (arith, places))
    go i false q =
        let n : a ≤ i → i < a + w → ⊥ = λ le lt. false≢true (sym q ∙ within_of a w i le lt) in
        rw q (grind (arith, places, n))

-- the numbers of a block of level l
span : (l X x : ℕ) → among (X * 2 ^ l) (2 ^ l) x ≡ eqb (x / 2 ^ l) X
span l X x =
    same_tests _ _
    (λ e.
    let h : (X * 2 ^ l ≤ x) × (x < X * 2 ^ l + 2 ^ l) = within_in (X * 2 ^ l) (2 ^ l) x e in
    let d : X * 2 ^ l + (x - X * 2 ^ l) ≡ x = omega arith in
    eq-eqb (x / 2 ^ l) X (ap (λ (j : ℕ). j / 2 ^ l) (sym d) ∙ high X l {lo = x - X * 2 ^ l} (omega arith)))
    (λ e.
    let q : x / 2 ^ l ≡ X = eqb-true (x / 2 ^ l) X e in
    let d : X * 2 ^ l + x % 2 ^ l ≡ x = rw q at (split x l) in
    let m : x % 2 ^ l < 2 ^ l = mod-lt x (pow_pos l) in
    within_of (X * 2 ^ l) (2 ^ l) x (omega arith) (omega arith))

-- the bytes of a row of a block, by column and row: s is the sheet's side
row_hit : (l X s t x y : ℕ) → X * 2 ^ l + 2 ^ l ≤ s → x < s → among (t * s + X * 2 ^ l) (2 ^ l) (y * s + x) ≡ eqb (x / 2 ^ l) X && eqb y t
row_hit l X s t x y fits lt =
    same_tests _ _
    (λ e.
    let h : (t * s + X * 2 ^ l ≤ y * s + x) × (y * s + x < t * s + X * 2 ^ l + 2 ^ l) = within_in _ _ _ e in
    let q : y ≡ t = same_row y t s x (X * 2 ^ l) lt h.0 (omega arith) in
    let ts : t * s ≡ y * s = ap (λ (j : ℕ). j * s) (sym q) in
    and_both _ _ (sym (span l X x) ∙ within_of (X * 2 ^ l) (2 ^ l) x (omega arith) (omega arith)) (eq-eqb y t q))
    (λ e.
    let q : y ≡ t = eqb-true y t (and_right (eqb (x / 2 ^ l) X) (eqb y t) e) in
    let h : (X * 2 ^ l ≤ x) × (x < X * 2 ^ l + 2 ^ l) = within_in (X * 2 ^ l) (2 ^ l) x (span l X x ∙ and_left (eqb (x / 2 ^ l) X) (eqb y t) e) in
    let ts : t * s ≡ y * s = ap (λ (j : ℕ). j * s) (sym q) in
    within_of _ _ _ (omega arith) (omega arith))

-- a block, row by row
over_again : (p q r : Bool) (c u : ℕ) → cond (p && q) c (cond (p && r) c u) ≡ cond (p && (q || r)) c u
over_again true true r c u = refl
over_again true false r c u = refl
over_again false q r c u = refl

module _ (n l X Y c : ℕ) (U : List ℕ) where
  pub rows_none : Painted n (in_the_rows l X Y 0) (λ i j. c) U U
  unfolding in_the_rows
  rows_none = record { size = refl; pixels = λ x y hx hy. rw (within_none (Y * 2 ^ l) y, and_false (eqb (x / 2 ^ l) X)) }

  pub rows_more : (j : ℕ) (U₁ W : List ℕ) → X * 2 ^ l + 2 ^ l ≤ 2 ^ n → Painted n (in_the_rows l X Y j) (λ i j. c) U U₁
      → BytesFilled ((Y * 2 ^ l + j) * 2 ^ n + X * 2 ^ l) (2 ^ l) c U₁ W → Painted n (in_the_rows l X Y (j + 1)) (λ i j. c) U W
  unfolding in_the_rows
  rows_more j U₁ W fits p f = record {
    size = f.size ∙ p.size;
    pixels =
        λ x y hx hy.
        f.bytes (y * 2 ^ n + x)
        ∙ rw (row_hit l X (2 ^ n) (Y * 2 ^ l + j) x y fits hx, p.pixels x y hx hy, within_more (Y * 2 ^ l) j y)
        (over_again (eqb (x / 2 ^ l) X) (eqb y (Y * 2 ^ l + j)) (among (Y * 2 ^ l) j y) c _);
  }

  pub rows_all : (j : ℕ) (W : List ℕ) → j ≡ 2 ^ l → Painted n (in_the_rows l X Y j) (λ i j. c) U W → Painted n (in_block l X Y) (λ i j. c) U W
  unfolding in_the_rows in_block
  rows_all j W e p = record { size = p.size; pixels = λ x y hx hy. p.pixels x y hx hy ∙ rw (e, span l Y y) }

-- a block of one pixel
pub painted_pixel : (n x y c : ℕ) (U : List ℕ) → OnSheet n 0 x y → length U ≡ 4 ^ n → Painted n (in_block 0 x y) (λ i j. c) U (set U (y * 2 ^ n + x) c)
painted_pixel n x y c U o e =
    let place : ℕ = y * 2 ^ n + x in
    let z : place + 0 ≡ place = add-zero place in
    let lt : place + 0 < length U = omega (arith, place_lt o) in
    let f : BytesFilled place 1 c U (set U place c) = rw z at (filled_more place 0 c U U lt (filled_none place c U)) in
    let a : (y * 1 + 0) * 2 ^ n + x * 1 ≡ place = rw (mul-one y, add-zero y, mul-one x) in
    rows_all n 0 x y c U 1 _ refl (rows_more n 0 x y c U 0 U _ (block_fits o).0 (rows_none n 0 x y c U) (rw a f))

same_where : (b : Bool) (g k u : ℕ) → (b ≡ true → k ≡ g) → cond b k u ≡ cond b g u
same_where true g k u f = f refl
same_where false g k u f = refl

module _ (T : List ℕ) (l p X Y : ℕ) where
  -- a leaf's block
  pub painted_leaf : (n c : ℕ) (U W : List ℕ) → c ≡ node_type T p → (c ≡ fork_type → ⊥) → Painted n (in_block l X Y) (λ i j. c) U W
      → Painted n (in_block l X Y) (colours_at T l p) U W
  painted_leaf n c U W e z h =
      let f : is_fork T p ≡ false = ne_eqb (node_type T p) fork_type (λ q. z (e ∙ q)) in
      record {
        size = h.size;
        pixels =
            λ x y hx hy. h.pixels x y hx hy
            ∙ ap (λ (k : ℕ). cond (in_block l X Y x y) k (get_or U (y * 2 ^ n + x) 0)) (e ∙ sym (rw (tree_leaf T l p f) (shade_leaf l (node_type T p) x y)));
      }

  -- a pixel of quarter q has the colour that son q gives it
  quarter_colour : (q u v x y : ℕ) → is_fork T p ≡ true → q < 4 → u ≡ 2 * X + q % 2 → v ≡ 2 * Y + q / 2 → in_block l u v x y ≡ true
      → colours_at T l (son T p q) x y ≡ colours_at T (suc l) p x y
  unfolding in_block
  quarter_colour q u v x y f hq eu ev h =
      let hx : x / 2 ^ l ≡ u = eqb-true _ _ (and_left (eqb (x / 2 ^ l) u) (eqb (y / 2 ^ l) v) h) in
      let hy : y / 2 ^ l ≡ v = eqb-true _ _ (and_right (eqb (x / 2 ^ l) u) (eqb (y / 2 ^ l) v) h) in
      let at : quadrant_of (x / 2 ^ l) (y / 2 ^ l) ≡ q = omega arith in
      let s : son_of (tree_at T (suc l) p) q ≡ tree_at T l (son T p q) = rw f at (table-son T l p q hq) in
      sym (shade_top l (tree_at T (suc l) p) x y ∙ rw (at, s))

-- a fork's block, quarter by quarter: a quarter is the pixels of the block whose quadrant it is
quarter_test : (a b X Y q : ℕ) → q < 4 → eqb a (2 * X + q % 2) && eqb b (2 * Y + q / 2) ≡ (eqb (a / 2) X && eqb (b / 2) Y) && eqb (quadrant_of a b) q
quarter_test a b X Y q q4 =
    same_tests _ _
    (λ e.
    let ea : a ≡ 2 * X + q % 2 = eqb-true _ _ (and_left (eqb a (2 * X + q % 2)) _ e) in
    let eb : b ≡ 2 * Y + q / 2 = eqb-true _ _ (and_right (eqb a (2 * X + q % 2)) _ e) in
    and_both _ _ (and_both _ _ (eq-eqb (a / 2) X (omega arith)) (eq-eqb (b / 2) Y (omega arith))) (eq-eqb (quadrant_of a b) q (omega arith)))
    (λ e.
    let h = and_left (eqb (a / 2) X && eqb (b / 2) Y) _ e in
    let ea : a / 2 ≡ X = eqb-true _ _ (and_left (eqb (a / 2) X) _ h) in
    let eb : b / 2 ≡ Y = eqb-true _ _ (and_right (eqb (a / 2) X) _ h) in
    let eq : quadrant_of a b ≡ q = eqb-true _ _ (and_right (eqb (a / 2) X && eqb (b / 2) Y) _ e) in
    and_both _ _ (eq-eqb a (2 * X + q % 2) (omega arith)) (eq-eqb b (2 * Y + q / 2) (omega arith)))

in_quarter : (l X Y q x y : ℕ) → q < 4 → in_block l (2 * X + q % 2) (2 * Y + q / 2) x y ≡ in_block (l + 1) X Y x y && eqb (quadrant_of (x / 2 ^ l) (y / 2 ^ l)) q
unfolding in_block
in_quarter l X Y q x y q4 =
    let o : l + 1 ≡ suc l = omega arith in
    quarter_test (x / 2 ^ l) (y / 2 ^ l) X Y q q4 ∙ rw (o, half_last l x, half_last l y)

one_more : (k q : ℕ) → ltb k (q + 1) ≡ eqb k q || ltb k q
one_more k q =
    same_tests _ _
    (λ e.
    ⊎_elim
    (λ (l : k < q). rw (lt-ltb k q l) (or_true (eqb k q)))
    (λ (g : q ≤ k). rw (eq-eqb k q (omega (arith, ltb-true k (q + 1) e))))
    (lt_or_ge k q))
    (λ e.
    ⊎_elim
    (λ (h : eqb k q ≡ true). lt-ltb k (q + 1) (omega (arith, eqb-true k q h)))
    (λ (h : eqb k q ≡ false). lt-ltb k (q + 1) (omega (arith, ltb-true k q (or_second (eqb k q) _ e h))))
    (by_bool (eqb k q)))

and_true : (b : Bool) → b && true ≡ b
and_true true = refl
and_true false = refl

pub quarters_none : (n l X Y : ℕ) (g : ℕ → ℕ → ℕ) (U : List ℕ) → Painted n (in_quarters l X Y 0) g U U
unfolding in_quarters
quarters_none n l X Y g U = record { size = refl; pixels = λ x y hx hy. rw (le-ltb (quadrant_of (x / 2 ^ l) (y / 2 ^ l)) 0 (omega arith), and_false (in_block (l + 1) X Y x y)) }

pub quarters_more : (T : List ℕ) (n l p X Y q : ℕ) (U W W' : List ℕ) → is_fork T p ≡ true → q < 4 → Painted n (in_quarters l X Y q) (colours_at T (suc l) p) U W
    → Painted n (in_block l (2 * X + q % 2) (2 * Y + q / 2)) (colours_at T l (son T p q)) W W' → Painted n (in_quarters l X Y (q + 1)) (colours_at T (suc l) p) U W'
unfolding in_quarters
quarters_more T n l p X Y q U W W' f q4 a b = record {
  size = b.size ∙ a.size;
  pixels =
      λ x y hx hy.
      let k : ℕ = quadrant_of (x / 2 ^ l) (y / 2 ^ l) in
      let c : ℕ = colours_at T (suc l) p x y in
      let here : Bool = in_block (l + 1) X Y x y in
      let old : ℕ = get_or U (y * 2 ^ n + x) 0 in
      b.pixels x y hx hy
      ∙ same_where (in_block l (2 * X + q % 2) (2 * Y + q / 2) x y) c _ _ (quarter_colour T l p X Y q _ _ x y f q4 refl refl)
      ∙ ap (λ (v : ℕ). cond (in_block l (2 * X + q % 2) (2 * Y + q / 2) x y) c v) (a.pixels x y hx hy)
      ∙ ap (λ (t : Bool). cond t c (cond (here && ltb k q) c old)) (in_quarter l X Y q x y q4)
      ∙ over_again here (eqb k q) (ltb k q) c old
      ∙ ap (λ (t : Bool). cond (here && t) c old) (sym (one_more k q));
}

pub quarters_all : (n l X Y q : ℕ) (g : ℕ → ℕ → ℕ) (U W : List ℕ) → q ≡ 4 → Painted n (in_quarters l X Y q) g U W → Painted n (in_block (l + 1) X Y) g U W
unfolding in_quarters
quarters_all n l X Y q g U W e a = record {
  size = a.size;
  pixels =
      λ x y hx hy.
      a.pixels x y hx hy
      ∙ ap (λ (t : Bool). cond t (g x y) (get_or U (y * 2 ^ n + x) 0))
      (ap (λ (t : Bool). in_block (l + 1) X Y x y && t) (lt-ltb (quadrant_of (x / 2 ^ l) (y / 2 ^ l)) q (omega arith)) ∙ and_true (in_block (l + 1) X Y x y));
}

-- the same in the code's numbers
module _ (T : List ℕ) (n l p X Y : ℕ) (pos : 0 < l) where
  above : l ≡ suc (l - 1)
  above = omega arith

  pub quarter_painted : (q s : ℕ) (U W W' : List ℕ) → is_fork T p ≡ true → q < 4 → s ≡ son T p q → Painted n (in_quarters (l - 1) X Y q) (colours_at T l p) U W
      → Painted n (in_block (l - 1) (2 * X + q % 2) (2 * Y + q / 2)) (colours_at T (l - 1) s) W W' → Painted n (in_quarters (l - 1) X Y (q + 1)) (colours_at T l p) U W'
  quarter_painted q s U W W' f q4 e a b =
      let a' : Painted n (in_quarters (l - 1) X Y q) (colours_at T (suc (l - 1)) p) U W = subst (λ (k : ℕ). Painted n (in_quarters (l - 1) X Y q) (colours_at T k p) U W) above a in
      subst (λ (k : ℕ). Painted n (in_quarters (l - 1) X Y (q + 1)) (colours_at T k p) U W') (sym above) (quarters_more T n (l - 1) p X Y q U W W' f q4 a' (rw e at b))

  pub fork_painted : (q : ℕ) (U W : List ℕ) → q ≡ 4 → Painted n (in_quarters (l - 1) X Y q) (colours_at T l p) U W → Painted n (in_block l X Y) (colours_at T l p) U W
  fork_painted q U W e a =
      let o : l - 1 + 1 ≡ l = omega arith in
      subst (λ (k : ℕ). Painted n (in_block k X Y) (colours_at T l p) U W) o (quarters_all n (l - 1) X Y q (colours_at T l p) U W e a)

-- each son of a fork stands one level down
pub son_place : {n : ℕ} {T : List ℕ} {p l x y bytes : ℕ} → Paintable n T p l x y bytes → is_fork T p ≡ true → (q s : ℕ) → q < 4 → s ≡ son T p q
    → AtLevel n T s (l - 1)
son_place h f q s lt e = rw e (son_at h.place f q lt)
