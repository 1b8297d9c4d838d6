-- The pixels of a leaf are those of its block: a pixel's leaf is the one leaf whose block, by column and row, the pixel
-- lies in.
use mathlib.Core.Bool.{Bool, true, false, cond, ◌&&◌}
use mathlib.Core.List.{List}
use mathlib.Core.Logic.{⊎_elim}
use mathlib.Core.Path.{◌≡◌, sym, ◌∙◌}
use Prim.Native.Nat.{ℕ, suc, ◌+◌, ◌*◌, ◌/◌, ◌%◌, ◌^◌, ◌<◌}
use native.Mathlib.Nat.{suc-mul, mul-le-mul_right, mul-add-div_right, div-eq_of_lt, div-lt_iff_lt-mul, mod-lt}
use native.Mathlib.Omega.{arith}
use lib.Dec.{eqb}
use lib.Pow.{pow_pos, low, high}
use borrow.Author.Tests.{eq-eqb, eqb-true}
use Rattle.base.specs.Tab.{sum}
use Rattle.base.proofs.BoolLaws.{by_bool, and_left, and_right, and_both, same_tests}
use Rattle.base.proofs.CaseLaws.{cond_and}
use Rattle.base.proofs.PowLaws.{pow_product, four_pow}
use Rattle.base.proofs.RasterSums.{block_sum}
use Rattle.base.proofs.SumLaws.{sum_same}
use Rattle.quad.specs.Block.{path_of, column, row}
use Rattle.quad.proofs.PathLaws.{path_length, path_quadrants}
use Rattle.table.specs.Table.{nodes, is_fork}
use Rattle.table.specs.Rules.{depth_to, Accepted}
use Rattle.table.specs.Nodes.{path_to, holder, level_of, side_of, left_of, top_of}
use Rattle.table.proofs.AcceptedLaws.{depth_le, fork_deep}
use Rattle.table.proofs.HolderLaws.{held, held_inside, within_leaf}
use Rattle.table.proofs.BlockLaws.{column_below, row_below}
use Rattle.ponds.specs.Entries.{leaf_at}

module _ (n : ℕ) (T : List ℕ) (acc : Accepted n T) where
  -- p is a leaf whose block the pixel (x, y) lies in
  pub record LeafOf (x y : ℕ) (p : ℕ) : Type 0 where
    pub below : p < nodes T
    pub leaf : is_fork T p ≡ false
    pub across : column (path_to T n p) ≡ x / side_of n T p
    pub down : row (path_to T n p) ≡ y / side_of n T p

  -- the leaf that holds a pixel is such a one
  leaf_of_lem : (x y : ℕ) → x < 2 ^ n → y < 2 ^ n → LeafOf x y (holder T (path_of n x y))
  leaf_of_lem x y lx ly =
      let p : ℕ = holder T (path_of n x y) in
      let h = held n T acc (path_of n x y) (path_quadrants n x y) in
      let w = held_inside n T acc n x y lx ly in
      record {
        below = h.below;
        leaf = ⊎_elim
            (λ (f : is_fork T p ≡ true). absurd (omega (arith, h.full f, path_length n x y, fork_deep n T acc p h.below f)))
            (λ f. f)
            (by_bool (is_fork T p));
        across = w.0;
        down = w.1;
      }

  -- and the only one
  pub leaf_holds : (x y p : ℕ) → LeafOf x y p → holder T (path_of n x y) ≡ p
  leaf_holds x y p i = within_leaf n T acc p n x y i.below i.leaf (depth_le T n p) (sym i.across) (sym i.down)

  -- by rows: pixel i
  pub pixel_leaf : (i : ℕ) → i < 4 ^ n → LeafOf (i % 2 ^ n) (i / 2 ^ n) (leaf_at n T i)
  unfolding leaf_at
  pixel_leaf i h =
      let l : i < 2 ^ n * 2 ^ n = rw (four_pow n) at h in
      leaf_of_lem (i % 2 ^ n) (i / 2 ^ n) (mod-lt i (pow_pos n)) ((div-lt_iff_lt-mul {k = 2 ^ n} {x = i} {y = 2 ^ n} (pow_pos n)).1 l)

  module _ (p : ℕ) (lt : p < nodes T) where
    wide : 2 ^ n ≡ 2 ^ depth_to T n p * side_of n T p
    wide = pow_product (depth_to T n p) (level_of n T p) n (omega (arith, depth_le T n p))

    module _ (f : is_fork T p ≡ false) where
      -- whether pixel i lies in the block's rows, and in its columns
      on_row : ℕ → Bool
      on_row i = eqb (row (path_to T n p)) (i / 2 ^ n / side_of n T p)

      on_column : ℕ → Bool
      on_column i = eqb (column (path_to T n p)) (i % 2 ^ n / side_of n T p)

      -- then, and only then, p is its leaf
      at_block : (i : ℕ) → i < 4 ^ n → eqb (leaf_at n T i) p ≡ on_row i && on_column i
      unfolding leaf_at on_row on_column
      at_block i l =
          same_tests (eqb (leaf_at n T i) p) (on_row i && on_column i)
          (λ e.
          let q : leaf_at n T i ≡ p = eqb-true (leaf_at n T i) p e in
          let o = rw q at (pixel_leaf i l) in
          and_both (on_row i) (on_column i) (eq-eqb _ _ o.down) (eq-eqb _ _ o.across))
          (λ e.
          eq-eqb (leaf_at n T i) p
          (leaf_holds (i % 2 ^ n) (i / 2 ^ n) p
          (record {
            below = lt;
            leaf = f;
            across = eqb-true _ _ (and_right (on_row i) (on_column i) e);
            down = eqb-true _ _ (and_left (on_row i) (on_column i) e);
          })))

      pub leaf_sum : (v : ℕ) → sum (λ i. cond (eqb (leaf_at n T i) p) v 0) (4 ^ n) ≡ side_of n T p * side_of n T p * v
      unfolding on_row on_column
      leaf_sum v =
          let big = block_sum (side_of n T p) (column (path_to T n p)) (row (path_to T n p)) (2 ^ depth_to T n p) v (pow_pos (level_of n T p))
          (column_below n T acc p lt) (row_below n T acc p lt) in
          sum_same (λ i. cond (eqb (leaf_at n T i) p) v 0) (λ i. cond (on_row i) (cond (on_column i) v 0) 0) (4 ^ n)
          (λ i l. rw (at_block i l) (cond_and (on_row i) (on_column i) v 0))
          ∙ rw four_pow (rw (← wide) at big)

      -- the pixels of the block's diagonal, from the first row and column to the last
      pub record Inside (d : ℕ) : Type 0 where
        pub at : ℕ
        pub below : at < 4 ^ n
        pub owned : leaf_at n T at ≡ p
        pub across : at % 2 ^ n ≡ left_of n T p + d
        pub down : at / 2 ^ n ≡ top_of n T p + d

      pub inside : (d : ℕ) → d < side_of n T p → Inside d
      unfolding leaf_at
      inside d h =
          let s : ℕ = side_of n T p in
          let x : ℕ = left_of n T p + d in
          let y : ℕ = top_of n T p + d in
          let fits : (k : ℕ) → k < 2 ^ depth_to T n p → k * s + d < 2 ^ n =
          λ k l. omega (arith, wide, suc-mul k s, mul-le-mul_right {m = suc k} {n = 2 ^ depth_to T n p} s l) in
          let bx : x < 2 ^ n = fits (column (path_to T n p)) (column_below n T acc p lt) in
          let by : y < 2 ^ n = fits (row (path_to T n p)) (row_below n T acc p lt) in
          let ex : (y * 2 ^ n + x) % 2 ^ n ≡ x = low y n bx in
          let ey : (y * 2 ^ n + x) / 2 ^ n ≡ y = high y n bx in
          let part : (k : ℕ) → k ≡ (k * s + d) / s = λ k. sym (mul-add-div_right (pow_pos (level_of n T p)) k d ∙ omega (arith, div-eq_of_lt h)) in
          record {
            at = y * 2 ^ n + x;
            below = rw (four_pow n) (omega (arith, suc-mul y (2 ^ n), mul-le-mul_right {m = suc y} {n = 2 ^ n} (2 ^ n) by));
            owned = rw (ex, ey) (leaf_holds x y p (record { below = lt; leaf = f; across = part _; down = part _ }));
            across = ex;
            down = ey;
          }
