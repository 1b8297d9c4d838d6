-- A pond's entry over the pixels is what the leaves of its number give it: the count adds up block by block, and a
-- leaf's first and last row and column are those of the corner pixels of its block.
use mathlib.Core.Bool.{Bool, true, false, cond}
use mathlib.Core.List.{List}
use mathlib.Core.Logic.{⊎_elim}
use mathlib.Core.Path.{◌≡◌, refl, sym, ◌∙◌}
use Prim.Native.Nat.{ℕ, zero, suc, ◌+◌, ◌-◌, ◌*◌, ◌/◌, ◌%◌, ◌^◌, ◌≤◌, ◌<◌}
use native.Mathlib.Nat.{add-zero, mod-lt, min_comm, max_comm, min-eq_right, add_comm}
use native.Mathlib.Omega.{arith}
use lib.Dec.{eqb}
use lib.ListN.{get_or}
use lib.Pow.{pow_pos, split}
use borrow.Author.Tests.{eqb-true}
use Rattle.base.specs.Tab.{sum, least, greatest}
use Rattle.base.proofs.BoolLaws.{by_bool}
use Rattle.base.proofs.CaseLaws.{cond_same}
use Rattle.base.proofs.LeastLaws.{least_top}
use Rattle.base.proofs.PartLaws.{Reached, least_parts, greatest_parts}
use Rattle.base.proofs.SumLaws.{sum_same, sum_zeros, sum_swap, sum_one}
use Rattle.quad.specs.Numbers.{none}
use Rattle.quad.specs.Block.{column, row}
use Rattle.table.specs.Table.{nodes, is_fork}
use Rattle.table.specs.Nodes.{path_to, level_of, side_of, left_of, top_of}
use Rattle.table.specs.Blocks.{block_of}
use Rattle.ponds.specs.declared.Pond.{Pond}
use Rattle.ponds.specs.Entries.{leaf_at, entry_of, entries}
use Rattle.ponds_entry.specs.Gathered.{grown_of, gathered, gatherings, Numbers}
use Rattle.ponds_entry.proofs.GatheredLaws.{ponds_same, entries_ponds}
use Rattle.ponds.proofs.LeafPixels.{pixel_leaf, leaf_sum, Inside, inside}

-- entries are equal word by word
pub same_pond : (e f : Pond) → e.pixels ≡ f.pixels → e.top ≡ f.top → e.bottom ≡ f.bottom → e.left ≡ f.left → e.right ≡ f.right → e ≡ f
same_pond e f p t b l r = rw (p, t, b, l, r)

-- a coordinate lies between the first and the last of its stretch
at_least : (a l c : ℕ) → c ≡ a / 2 ^ l → c * 2 ^ l ≤ a
at_least a l c e = rw e (omega (arith, split a l))

at_most : (a l c : ℕ) → c ≡ a / 2 ^ l → a ≤ c * 2 ^ l + (2 ^ l - 1)
at_most a l c e = rw e (omega (arith, split a l, mod-lt a (pow_pos l)))

module _ (n : ℕ) (T numbers : List ℕ) (k : ℕ) where
  -- whether node p has number k
  abbrev has : ℕ → Bool
  has p = eqb (get_or numbers p 0) k

  -- the sum, the least and the greatest over the nodes below p that have it
  unfoldable pub over_nodes : ℕ → Pond
  over_nodes p = record {
    pixels = sum (λ q. cond (has q) (side_of n T q * side_of n T q) 0) p;
    top = least none (λ q. cond (has q) (top_of n T q) none) p;
    bottom = greatest (λ q. cond (has q) (top_of n T q + (side_of n T q - 1)) 0) p;
    left = least none (λ q. cond (has q) (left_of n T q) none) p;
    right = greatest (λ q. cond (has q) (left_of n T q + (side_of n T q - 1)) 0) p;
  }

  pub gathered_over : (p : ℕ) → gathered n T numbers k p ≡ over_nodes p
  unfolding gathered over_nodes grown_of block_of sum least greatest
  gathered_over zero = refl
  gathered_over (suc p) =
      ⊎_elim
      (λ (e : has p ≡ true).
      rw (e, gathered_over p) (same_pond _ _ (add_comm _ _) (min_comm _ _) (max_comm _ _) (min_comm _ _) (max_comm _ _)))
      (λ (e : has p ≡ false).
      rw (e, gathered_over p)
      (same_pond _ _ (omega arith) (sym (min-eq_right (least_top none _ p))) (omega arith) (sym (min-eq_right (least_top none _ p))) (omega arith)))
      (by_bool (has p))

  -- and over the pixels
  module _ (count : ℕ) (s : Numbers n T numbers count) (pos : 0 < k) where
    -- a node of number k is a leaf
    is_leaf : (p : ℕ) → p < nodes T → has p ≡ true → is_fork T p ≡ false
    is_leaf p lt e =
        ⊎_elim (λ (f : is_fork T p ≡ true). absurd (omega (arith, s.forks p lt f, eqb-true (get_or numbers p 0) k e))) (λ f. f) (by_bool (is_fork T p))

    pixels_of_lem : (p : ℕ) → p < nodes T
        → sum (λ i. cond (eqb (leaf_at n T i) p) (cond (has p) 1 0) 0) (4 ^ n) ≡ cond (has p) (side_of n T p * side_of n T p) 0
    pixels_of_lem p lt =
        ⊎_elim
        (λ (e : has p ≡ true). rw e (leaf_sum n T s.accepted p lt (is_leaf p lt e) 1 ∙ omega arith))
        (λ (e : has p ≡ false). rw e (sum_same _ _ (4 ^ n) (λ i l. cond_same (eqb (leaf_at n T i) p) 0) ∙ sum_zeros (4 ^ n)))
        (by_bool (has p))

    pixels_over : sum (λ i. cond (has (leaf_at n T i)) 1 0) (4 ^ n) ≡ (over_nodes (nodes T)).pixels
    unfolding over_nodes
    pixels_over =
        sum_same _ (λ i. sum (λ p. cond (eqb (leaf_at n T i) p) (cond (has p) 1 0) 0) (nodes T)) (4 ^ n)
        (λ i l. sym (sum_one (λ p. cond (has p) 1 0) (leaf_at n T i) (nodes T) (pixel_leaf n T s.accepted i l).below))
        ∙ (sum_swap (λ i p. cond (eqb (leaf_at n T i) p) (cond (has p) 1 0) 0) (4 ^ n) (nodes T)
        ∙ sum_same _ _ (nodes T) pixels_of_lem)

    owned : (i : ℕ) → i < 4 ^ n → leaf_at n T i < nodes T
    owned i l = (pixel_leaf n T s.accepted i l).below

    -- one axis: a pixel's row or column, and the row or column of a node's block; the block's first and last pixel
    -- reach its bounds
    module _
        (axis index : ℕ → ℕ)
        (lies : (i : ℕ) → i < 4 ^ n → index (leaf_at n T i) ≡ axis i / side_of n T (leaf_at n T i))
        (meets : (p d : ℕ) (lt : p < nodes T) → has p ≡ true → d < side_of n T p → Reached (leaf_at n T) axis (4 ^ n) p (index p * side_of n T p + d)) where
      first_over : least none (λ i. cond (has (leaf_at n T i)) (axis i) none) (4 ^ n)
          ≡ least none (λ p. cond (has p) (index p * side_of n T p) none) (nodes T)
      first_over =
          least_parts (leaf_at n T) axis (λ p. index p * side_of n T p) (4 ^ n) (nodes T) has owned
          (λ p lt e. rw (add-zero (index p * side_of n T p)) at (meets p 0 lt e (pow_pos (level_of n T p))))
          none
          (λ i l. at_least (axis i) _ _ (lies i l))

      last_over : greatest (λ i. cond (has (leaf_at n T i)) (axis i) 0) (4 ^ n)
          ≡ greatest (λ p. cond (has p) (index p * side_of n T p + (side_of n T p - 1)) 0) (nodes T)
      last_over =
          greatest_parts (leaf_at n T) axis (λ p. index p * side_of n T p + (side_of n T p - 1)) (4 ^ n) (nodes T) has owned
          (λ p lt e. meets p (side_of n T p - 1) lt e (omega (arith, pow_pos (level_of n T p))))
          (λ i l. at_most (axis i) _ _ (lies i l))

    pixel_in : (p d : ℕ) (lt : p < nodes T) (e : has p ≡ true) → d < side_of n T p → Inside n T s.accepted p lt (is_leaf p lt e) d
    pixel_in p d lt e h = inside n T s.accepted p lt (is_leaf p lt e) d h

    pub gathered_entry : gathered n T numbers k (nodes T) ≡ entry_of n T numbers k
    unfolding over_nodes entry_of
    gathered_entry =
        let rows : ℕ → ℕ = λ i. i / 2 ^ n in
        let columns : ℕ → ℕ = λ i. i % 2 ^ n in
        let down : (i : ℕ) → i < 4 ^ n → row (path_to T n (leaf_at n T i)) ≡ rows i / side_of n T (leaf_at n T i) =
        λ i l. (pixel_leaf n T s.accepted i l).down in
        let across : (i : ℕ) → i < 4 ^ n → column (path_to T n (leaf_at n T i)) ≡ columns i / side_of n T (leaf_at n T i) =
        λ i l. (pixel_leaf n T s.accepted i l).across in
        let on_row : (p d : ℕ) (lt : p < nodes T) → has p ≡ true → d < side_of n T p → Reached (leaf_at n T) rows (4 ^ n) p (top_of n T p + d) =
        λ p d lt e h. let o = pixel_in p d lt e h in record { at = o.at; below = o.below; owned = o.owned; meets = o.down } in
        let on_column : (p d : ℕ) (lt : p < nodes T) → has p ≡ true → d < side_of n T p → Reached (leaf_at n T) columns (4 ^ n) p (left_of n T p + d) =
        λ p d lt e h. let o = pixel_in p d lt e h in record { at = o.at; below = o.below; owned = o.owned; meets = o.across } in
        let row_of : ℕ → ℕ = λ p. row (path_to T n p) in
        let columnOf : ℕ → ℕ = λ p. column (path_to T n p) in
        gathered_over (nodes T)
        ∙ sym (same_pond (entry_of n T numbers k) (over_nodes (nodes T))
        pixels_over
        (first_over rows row_of down on_row)
        (last_over rows row_of down on_row)
        (first_over columns columnOf across on_column)
        (last_over columns columnOf across on_column))

-- all of them
pub gatherings_entries : (n : ℕ) (T numbers : List ℕ) (count : ℕ) → Numbers n T numbers count → gatherings n T numbers (nodes T) count ≡ entries n T numbers count
gatherings_entries n T numbers count s =
    ponds_same (λ k. gathered n T numbers k (nodes T)) (entry_of n T numbers) count 1 (λ k pos. gathered_entry n T numbers k count s pos)
    ∙ entries_ponds n T numbers count 1
