-- The pixel counts of all entries add up to the black pixels of the raster, where each black leaf has a number from 1
-- to the count and no other node has one: a black pixel is counted in the entry of its number alone, any other pixel in
-- none.
use mathlib.Core.Bool.{true, false}
use mathlib.Core.List.{List}
use mathlib.Core.Logic.{⊎_elim}
use mathlib.Core.Path.{◌≡◌, ap, ◌∙◌}
use Prim.Native.Nat.{ℕ, ◌+◌, ◌-◌, ◌/◌, ◌%◌, ◌^◌, ◌≤◌, ◌<◌}
use native.Mathlib.Omega.{arith}
use lib.Dec.{eqb}
use lib.ListN.{get_or}
use borrow.Author.Tests.{eq-eqb, ne_eqb, eqb-true, eqb-false}
use Rattle.base.specs.Tab.{sum}
use Rattle.base.proofs.BoolLaws.{by_bool, same_tests}
use Rattle.base.proofs.SumLaws.{sum_same, sum_zeros, sum_swap, sum_one}
use Rattle.quad.specs.Numbers.{black}
use Rattle.table.specs.Table.{nodes, node_type}
use Rattle.table.specs.Rules.{one, Accepted}
use Rattle.table.specs.Nodes.{pixel}
use Rattle.ponds.specs.Entries.{leaf_at, number_at, entry_of}
use Rattle.ponds.proofs.LeafPixels.{pixel_leaf}

-- of the numbers from 1 to count, a number is one or, being 0, none
one_number : (a count : ℕ) → 0 < a → a ≤ count → sum (λ j. one (eqb a (j + 1))) count ≡ 1
one_number a count pos le =
    sum_same _ _ count
    (λ j l. ap one (same_tests (eqb a (j + 1)) (eqb (a - 1) j)
    (λ e. eq-eqb (a - 1) j (omega (arith, eqb-true a (j + 1) e)))
    (λ e. eq-eqb a (j + 1) (omega (arith, eqb-true (a - 1) j e)))))
    ∙ sum_one (λ j. 1) (a - 1) count (omega arith)

no_number : (count : ℕ) → sum (λ j. one (eqb 0 (j + 1))) count ≡ 0
no_number count = sum_same _ _ count (λ j l. ap one (ne_eqb 0 (j + 1) (λ e. omega arith))) ∙ sum_zeros count

module _ (n : ℕ) (T numbers : List ℕ) (count : ℕ) (acc : Accepted n T)
    (dry : (p : ℕ) → p < nodes T → (node_type T p ≡ black → ⊥) → get_or numbers p 0 ≡ 0)
    (some : (p : ℕ) → p < nodes T → node_type T p ≡ black → 0 < get_or numbers p 0)
    (few : (p : ℕ) → p < nodes T → node_type T p ≡ black → get_or numbers p 0 ≤ count) where
  counted : (i : ℕ) → i < 4 ^ n → sum (λ j. one (eqb (number_at n T numbers i) (j + 1))) count ≡ one (eqb (node_type T (leaf_at n T i)) black)
  counted i l =
      let p : ℕ = leaf_at n T i in
      let lt : p < nodes T = (pixel_leaf n T acc i l).below in
      ⊎_elim
      (λ (e : eqb (node_type T p) black ≡ true).
      let b : node_type T p ≡ black = eqb-true (node_type T p) black e in
      rw e (one_number (get_or numbers p 0) count (some p lt b) (few p lt b)))
      (λ (e : eqb (node_type T p) black ≡ false). rw (e, dry p lt (eqb-false (node_type T p) black e)) (no_number count))
      (by_bool (eqb (node_type T p) black))

  pub counts_sum : sum (λ j. (entry_of n T numbers (j + 1)).pixels) count ≡ sum (λ i. one (eqb (pixel n T (i % 2 ^ n) (i / 2 ^ n)) black)) (4 ^ n)
  unfolding entry_of pixel leaf_at
  counts_sum =
      sum_swap (λ j i. one (eqb (number_at n T numbers i) (j + 1))) count (4 ^ n)
      ∙ sum_same (λ i. sum (λ j. one (eqb (number_at n T numbers i) (j + 1))) count) (λ i. one (eqb (node_type T (leaf_at n T i)) black)) (4 ^ n) counted
