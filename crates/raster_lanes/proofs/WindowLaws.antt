-- A window on a raster: what its rows' numbers and its lanes say of its blocks, and that its tree is that of the block
-- it opens on.
use mathlib.Core.List.{List}
use mathlib.Core.Path.{◌≡◌, refl, ap, sym, ◌∙◌}
use Prim.Native.Nat.{ℕ, zero, suc, ◌+◌, ◌*◌, ◌/◌, ◌^◌, ◌≤◌}
use native.Mathlib.Nat.{add-zero, add-mul, mul_assoc, mul_left_comm, pow-succ'}
use native.Mathlib.Omega.{arith}
use lib.ListN.{get_or}
use Rattle.quad.specs.Numbers.{fork_type}
use Rattle.quad.specs.Tree.{colour, size_of, tree_of}
use Rattle.quad.proofs.PictureLaws.{same_picture}
use Rattle.raster.specs.Sums.{Colours, four_sum}
use Rattle.raster_lanes.specs.Lanes.{window, two_from, four_from, eight_from, two_rows, last_bits, forks_of, sums_from, FourSums}
use Rattle.raster_lanes.proofs.KindLaws.{four_few, sixteen_count, fork_nodes}
use Rattle.raster_lanes.proofs.LaneLaws.{carried, forks_are}

-- a picture that is moved by whole blocks has the moved block's tree
pub tree_moved : (f : ℕ → ℕ → ℕ) (a b l x y : ℕ) → tree_of (λ i j. f (a * 2 ^ l + i) (b * 2 ^ l + j)) l x y ≡ tree_of f l (a + x) (b + y)
unfolding tree_of
tree_moved f a b zero x y =
    let ea : a * 1 + x ≡ a + x = omega arith in
    let eb : b * 1 + y ≡ b + y = omega arith in
    rw (ea, eb)
tree_moved f a b (suc l) x y =
    let ea : a * 2 ^ suc l ≡ 2 * a * 2 ^ l = rw (pow-succ' 2 l, mul_left_comm a 2 (2 ^ l)) (sym (mul_assoc 2 a (2 ^ l))) in
    let eb : b * 2 ^ suc l ≡ 2 * b * 2 ^ l = rw (pow-succ' 2 l, mul_left_comm b 2 (2 ^ l)) (sym (mul_assoc 2 b (2 ^ l))) in
    let u : 2 * (a + x) ≡ 2 * a + 2 * x = omega arith in
    let v : 2 * (b + y) ≡ 2 * b + 2 * y = omega arith in
    let us : 2 * a + 2 * x + 1 ≡ 2 * a + (2 * x + 1) = omega arith in
    let vs : 2 * b + 2 * y + 1 ≡ 2 * b + (2 * y + 1) = omega arith in
    let q : (i j : ℕ) → tree_of (λ s t. f (a * 2 ^ suc l + s) (b * 2 ^ suc l + t)) l i j ≡ tree_of f l (2 * a + i) (2 * b + j) = λ i j. rw (ea, eb) (tree_moved f (2 * a) (2 * b) l i j) in
    rw (q (2 * x) (2 * y), q (2 * x + 1) (2 * y), q (2 * x) (2 * y + 1), q (2 * x + 1) (2 * y + 1), u, v, us, vs)

-- the row j of eight pixels, as one number
unfoldable pub row_of : (ℕ → ℕ → ℕ) → ℕ → ℕ
row_of g j = g 0 j + 256 * g 1 j + 65536 * g 2 j + 16777216 * g 3 j + 4294967296 * g 4 j + 1099511627776 * g 5 j + 281474976710656 * g 6 j + 72057594037927936 * g 7 j

module _ (R : List ℕ) (w a : ℕ) where
  at : (x y : ℕ) → x ≡ y → get_or R x 0 ≡ get_or R y 0
  at x y e = ap (λ (k : ℕ). get_or R k 0) e

  pub eight_row : (j b : ℕ) → b ≡ a + j * w → eight_from R b ≡ row_of (window R w a) j
  unfolding eight_from four_from two_from window row_of
  eight_row j b e =
      omega (arith, at b (a + j * w + 0) (omega arith), at (b + 1) (a + j * w + 1) (omega arith), at (b + 2) (a + j * w + 2) (omega arith), at (b + 2 + 1) (a + j * w + 3) (omega arith), at (b + 4) (a + j * w + 4) (omega arith), at (b + 4 + 1) (a + j * w + 5) (omega arith), at (b + 4 + 2) (a + j * w + 6) (omega arith), at (b + 4 + 2 + 1) (a + j * w + 7) (omega arith))

  -- two rows further down
  sums_below : (i : ℕ) → four_sum (window R w (a + 2 * w)) i 0 ≡ four_sum (window R w a) i 1
  unfolding four_sum window
  sums_below i =
      omega (arith, at (a + 2 * w + 0 * w + 2 * i) (a + 2 * w + 2 * i) (omega arith), at (a + 2 * w + 0 * w + (2 * i + 1)) (a + 2 * w + (2 * i + 1)) (omega arith), at (a + 2 * w + 1 * w + 2 * i) (a + 3 * w + 2 * i) (omega arith), at (a + 2 * w + 1 * w + (2 * i + 1)) (a + 3 * w + (2 * i + 1)) (omega arith))

  module _ (colours : Colours R) where
    pub window_few : (i j : ℕ) → window R w a i j ≤ 1
    unfolding window
    window_few i j = colours _

    pub sums_are : (r : ℕ) → r ≡ two_rows R w a → last_bits (r + r / 256) ≡ sums_from (window R w a) 0
    unfolding two_rows four_sum row_of
    sums_are r e =
        let two : (i : ℕ) → window R w a i 0 + window R w a i 1 ≤ 2 = λ i. omega (arith, window_few i 0, window_few i 1) in
        let g : ℕ → ℕ = λ i. window R w a i 0 + window R w a i 1 in
        carried (g 0) (g 1) (g 2) (g 3) (g 4) (g 5) (g 6) (g 7) r (two 0) (two 1) (two 2) (two 3) (two 4) (two 5) (two 6) (two 7) (omega (arith, eight_row 0 a (omega arith), eight_row 1 (a + w) (omega arith)))
        ∙ omega arith

    abbrev pub sums_four : (u : ℕ) → u ≡ sums_from (window R w a) 0 → FourSums u
    sums_four u e = record {
      a = four_sum (window R w a) 0 0;
      b = four_sum (window R w a) 1 0;
      c = four_sum (window R w a) 2 0;
      d = four_sum (window R w a) 3 0;
      is = e;
      few = (four_few _ window_few 0 0, four_few _ window_few 1 0, four_few _ window_few 2 0, four_few _ window_few 3 0);
    }

    abbrev lower_four : (u : ℕ) → u ≡ sums_from (window R w (a + 2 * w)) 0 → FourSums u
    lower_four u e = record {
      a = four_sum (window R w a) 0 1;
      b = four_sum (window R w a) 1 1;
      c = four_sum (window R w a) 2 1;
      d = four_sum (window R w a) 3 1;
      is = e ∙ rw (sums_below 0, sums_below 1, sums_below 2, sums_below 3);
      few = (four_few _ window_few 0 1, four_few _ window_few 1 1, four_few _ window_few 2 1, four_few _ window_few 3 1);
    }

    -- the forks of the two blocks of level 2 at the top
    pub half_is : (u v r : ℕ) → u ≡ sums_from (window R w a) 0 → v ≡ sums_from (window R w (a + 2 * w)) 0 → r ≡ forks_of u v
        → 2 + 4 * r ≡ size_of (tree_of (window R w a) 2 0 0) + size_of (tree_of (window R w a) 2 1 0)
    half_is u v r eu ev er =
        let g = window R w a in
        let west = sixteen_count g window_few 0 0 (four_sum g 0 0) (four_sum g 1 0) (four_sum g 0 1) (four_sum g 1 1) _ _ _ _ _ refl refl refl refl refl refl refl refl refl in
        let east = sixteen_count g window_few 1 0 (four_sum g 2 0) (four_sum g 3 0) (four_sum g 2 1) (four_sum g 3 1) _ _ _ _ _ refl refl refl refl refl refl refl refl refl in
        omega (arith, er, forks_are u v (sums_four u eu) (lower_four v ev), west, east)

-- four rows further down
below_is : (R : List ℕ) (w a x : ℕ) → tree_of (window R w (a + 4 * w)) 2 x 0 ≡ tree_of (window R w a) 2 x 1
below_is R w a x =
    let pixel : (i j : ℕ) → window R w (a + 4 * w) i j ≡ window R w a (0 * 2 ^ 2 + i) (1 * 2 ^ 2 + j) =
    λ i j. unfold window in ap (λ (k : ℕ). get_or R k 0) (rw (add-mul 4 j w) (omega arith)) in
    let x0 : 0 + x ≡ x = omega arith in
    same_picture (window R w (a + 4 * w)) (λ i j. window R w a (0 * 2 ^ 2 + i) (1 * 2 ^ 2 + j)) 2 x 0 (λ i j hi hj. pixel i j)
    ∙ tree_moved (window R w a) 0 1 2 x 0
    ∙ rw x0

pub nodes_are : (R : List ℕ) (w a : ℕ) → Colours R → colour (tree_of (window R w a) 3 0 0) ≡ fork_type → (n s : ℕ)
    → 2 + 4 * n ≡ size_of (tree_of (window R w a) 2 0 0) + size_of (tree_of (window R w a) 2 1 0)
    → 2 + 4 * s ≡ size_of (tree_of (window R w (a + 4 * w)) 2 0 0) + size_of (tree_of (window R w (a + 4 * w)) 2 1 0)
    → 5 + 4 * (n + s) ≡ size_of (tree_of (window R w a) 3 0 0)
nodes_are R w a colours k n s en es =
    omega (arith, en, es, ap size_of (below_is R w a 0), ap size_of (below_is R w a 1), fork_nodes (window R w a) (window_few R w a colours) 2 0 0 k)

-- a window further on opens on a block of the first
pub window_moved : (R : List ℕ) (w a b l x y : ℕ) → b ≡ a + y * 2 ^ l * w + x * 2 ^ l → tree_of (window R w b) l 0 0 ≡ tree_of (window R w a) l x y
window_moved R w a b l x y e =
    let pixel : (i j : ℕ) → window R w b i j ≡ window R w a (x * 2 ^ l + i) (y * 2 ^ l + j) =
    λ i j. unfold window in ap (λ (k : ℕ). get_or R k 0) (rw (e, add-mul (y * 2 ^ l) j w) (omega arith)) in
    same_picture (window R w b) (λ i j. window R w a (x * 2 ^ l + i) (y * 2 ^ l + j)) l 0 0 (λ i j hi hj. pixel i j)
    ∙ tree_moved (window R w a) x y l 0 0
    ∙ rw (add-zero, add-zero)

-- and a window on a picture on one of its blocks
pub window_tree : (R : List ℕ) (f : ℕ → ℕ → ℕ) (w a l x y : ℕ) → ((i j : ℕ) → f i j ≡ get_or R (j * w + i) 0) → a ≡ y * 2 ^ l * w + x * 2 ^ l
    → tree_of (window R w a) l 0 0 ≡ tree_of f l x y
window_tree R f w a l x y is e =
    let first : (i j : ℕ) → window R w 0 i j ≡ f i j = λ i j. unfold window in ap (λ (k : ℕ). get_or R k 0) (omega arith) ∙ sym (is i j) in
    window_moved R w 0 a l x y (omega arith) ∙ same_picture (window R w 0) f l x y (λ i j hi hj. first i j)
