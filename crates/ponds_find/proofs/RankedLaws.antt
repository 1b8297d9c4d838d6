-- The numbers that the leaders' ranks give are the ponds': the first pixel of a pond is the top left one of its leader,
-- and the leaders' places are in the order of those pixels, so that before a pixel of a pond comes the first pixel of
-- each pond of a lower number.
use mathlib.Core.Bool.{true, false}
use mathlib.Core.List.{List}
use mathlib.Core.Logic.{⊎_elim}
use mathlib.Core.Path.{◌≡◌, ap, sym, ◌∙◌}
use Prim.Native.Nat.{ℕ, ◌+◌, ◌*◌, ◌/◌, ◌%◌, ◌^◌, ◌≤◌, ◌<◌}
use native.Mathlib.Nat.{add-zero, mod-lt, div-mul-le_self}
use native.Mathlib.Omega.{arith}
use lib.Dec.{eqb}
use lib.ListN.{get_or}
use lib.Pow.{pow_pos, pow_mono, high, split}
use borrow.Author.Tests.{eqb-true, eqb-false}
use Rattle.base.proofs.BoolLaws.{by_bool, lt_or_ge}
use Rattle.quad.specs.Numbers.{black, top_level}
use Rattle.quad.specs.Block.{row}
use Rattle.table.specs.Table.{node_type}
use Rattle.table.specs.Rules.{Accepted, AtLevel}
use Rattle.table.specs.Nodes.{path_to, level_of, side_of, left_of, top_of}
use Rattle.table.proofs.AcceptedLaws.{depth_le}
use Rattle.ponds.specs.Chain.{Water}
use Rattle.ponds.proofs.ChainLaws.{chain_start, chain_end}
use Rattle.ponds_sets.specs.Sets.{place_of}
use Rattle.ponds_ranks.specs.Ranked.{Ranked}
use Rattle.ponds_queues.proofs.PlaceLaws.{left_on, apart, place_only}
use Rattle.ponds.specs.Entries.{leaf_at, number_at}
use Rattle.ponds.proofs.LeafPixels.{pixel_leaf}
use Rattle.ponds.specs.Numbered.{Numbered}
use Rattle.ponds.proofs.LeafLaws.{black_leaf, leaf_node, leaf_along}

-- pixels by rows of W, and by rows of 128, are in one order
rows_order : (y x Y X W : ℕ) → x < W → X < W → W ≤ 2 ^ top_level → y * 2 ^ top_level + x < Y * 2 ^ top_level + X → y * W + x < Y * W + X
rows_order y x Y X W lx lX top lt =
    ⊎_elim
    (λ (up : y < Y). omega (arith, apart y Y W (omega arith) up))
    (λ (ge : Y ≤ y).
    let e : y ≡ Y = omega arith in
    let l : x < X = omega (arith, e) in
    rw e (omega (arith, l)))
    (lt_or_ge y Y)

module _ (n : ℕ) (T W : List ℕ) (count : ℕ) (acc : Accepted n T) (r : Ranked n T W count) where
  -- the top left pixel of a black leaf
  first_pixel : (p : ℕ) → Water T p → leaf_at n T (top_of n T p * 2 ^ n + left_of n T p) ≡ p
  first_pixel p w =
      let at : AtLevel n T p (level_of n T p) = record { accepted = acc; node = w.node; level = omega (arith, depth_le T n p) } in
      let down : top_of n T p / 2 ^ level_of n T p ≡ row (path_to T n p) =
      rw (add-zero (top_of n T p)) at (high (row (path_to T n p)) (level_of n T p) (pow_pos (level_of n T p))) in
      rw (add-zero (left_of n T p)) at
      (leaf_along n T acc p (level_of n T p) (top_of n T p) 0 at (black_leaf T p w.wet) down (pow_pos (level_of n T p)))

  -- a leaf begins no later than its pixels
  begins_first : (i : ℕ) → i < 4 ^ n → place_of n T (leaf_at n T i) ≤ i / 2 ^ n * 2 ^ top_level + i % 2 ^ n
  unfolding place_of
  begins_first i lt =
      let p : ℕ = leaf_at n T i in
      let o = pixel_leaf n T acc i lt in
      let left : left_of n T p ≤ i % 2 ^ n = rw o.across (div-mul-le_self (i % 2 ^ n) (side_of n T p)) in
      let top : top_of n T p ≤ i / 2 ^ n = rw o.down (div-mul-le_self (i / 2 ^ n) (side_of n T p)) in
      omega (arith, left, top)

  -- the leader of a lower number begins before that of a higher one
  begins_before : (p q : ℕ) → Water T p → Water T q → r.lead p ≡ p → r.lead q ≡ q → get_or W p 0 < get_or W q 0 → place_of n T p < place_of n T q
  begins_before p q wp wq ep eq lt =
      ⊎_elim
      (λ (l : place_of n T p < place_of n T q). l)
      (λ (ge : place_of n T q ≤ place_of n T p).
      ⊎_elim
      (λ (l : place_of n T q < place_of n T p). absurd (omega (arith, r.order q p wq wp eq ep l)))
      (λ (le : place_of n T p ≤ place_of n T q).
      let e = place_only acc wp wq (omega arith) in
      absurd (omega (arith, ap (λ (j : ℕ). get_or W j 0) e)))
      (lt_or_ge (place_of n T q) (place_of n T p)))
      (lt_or_ge (place_of n T p) (place_of n T q))

  -- so its first pixel comes before a pixel of the other pond
  earlier : (i : ℕ) → i < 4 ^ n → Water T (leaf_at n T i) → (q : ℕ) → Water T q → r.lead q ≡ q → get_or W q 0 < number_at n T W i
      → top_of n T q * 2 ^ n + left_of n T q < i
  unfolding place_of
  earlier i lt w q wq eq low =
      let p : ℕ = leaf_at n T i in
      let c = r.chain p w in
      let before = begins_before q (r.lead p) wq (chain_end n T p (r.lead p) c) eq (sym (r.one p (r.lead p) c)) (omega (arith, r.same p w)) in
      let o =
      rows_order (top_of n T q) (left_of n T q) (i / 2 ^ n) (i % 2 ^ n) (2 ^ n) (left_on n T acc q wq.node) (mod-lt i (pow_pos n))
      (pow_mono {i = n} {j = top_level} acc.sized.level)
      (omega (arith, before, r.first p w, begins_first i lt)) in
      omega (arith, o, split i n)

  in_order : (i a : ℕ) → i < 4 ^ n → 0 < a → a < number_at n T W i → (j : ℕ) × (j < i) × (number_at n T W j ≡ a)
  in_order i a lt pos h =
      let p : ℕ = leaf_at n T i in
      ⊎_elim
      (λ (b : eqb (node_type T p) black ≡ true).
      let w : Water T p = record { node = leaf_node n T acc i; wet = eqb-true (node_type T p) black b } in
      let m = r.all a pos (omega (arith, r.few p w)) in
      (top_of n T m.0 * 2 ^ n + left_of n T m.0, earlier i lt w m.0 m.1 m.2 (omega (arith, m.3)), ap (λ (j : ℕ). get_or W j 0) (first_pixel m.0 m.1) ∙ m.3))
      (λ (b : eqb (node_type T p) black ≡ false). absurd (omega (arith, r.dry p (leaf_node n T acc i) (eqb-false (node_type T p) black b))))
      (by_bool (eqb (node_type T p) black))

  pub ranked_numbered : Numbered n T W count
  ranked_numbered = record {
    each = r.each;
    dry = r.dry;
    some = r.some;
    few = r.few;
    one = λ p q ch.
        r.same p (chain_start n T p q ch) ∙ (ap (λ (j : ℕ). get_or W j 0) (r.one p q ch) ∙ sym (r.same q (chain_end n T p q ch)));
    apart = r.apart;
    order = in_order;
    all = λ a pos le. let m = r.all a pos le in (m.0, m.1, m.3);
  }
