-- What the ponds of a sheet come to: their pixel counts add up to the black pixels of the raster, and numbers and
-- entries are the picture's own, whatever the numbers of its nodes.
use mathlib.Core.List.{List}
use mathlib.Core.Path.{◌≡◌, refl, ap, ◌∙◌}
use Prim.Native.Nat.{ℕ, zero, suc, ◌+◌, ◌/◌, ◌%◌, ◌^◌, ◌<◌}
use lib.Dec.{eqb}
use Rattle.base.specs.Tab.{sum}
use Rattle.base.proofs.SumLaws.{sum_same}
use Rattle.base.proofs.LeastLaws.{least_same}
use Rattle.base.proofs.GreatestLaws.{greatest_same}
use Rattle.quad.specs.Numbers.{black, none}
use Rattle.table.specs.Rules.{one, Accepted}
use Rattle.table.specs.Nodes.{pixel}
use Rattle.ponds.specs.Entries.{number_at, if_at, entry_of, entries_from, entries}
use Rattle.ponds.proofs.CountsSum.{counts_sum}
use Rattle.ponds.specs.Numbered.{Numbered}
use Rattle.ponds.proofs.OneNumbering.{picture_numbering}

-- the pixel counts of all ponds, and the black pixels
pub pixels_sum : (n : ℕ) (T numbers : List ℕ) (count : ℕ) → Accepted n T → Numbered n T numbers count
    → sum (λ j. (entry_of n T numbers (j + 1)).pixels) count ≡ sum (λ i. one (eqb (pixel n T (i % 2 ^ n) (i / 2 ^ n)) black)) (4 ^ n)
pixels_sum n T numbers count acc h =
    counts_sum n T numbers count acc h.dry (λ p lt b. h.some p (record { node = lt; wet = b })) (λ p lt b. h.few p (record { node = lt; wet = b }))

module _ (n : ℕ) (T U a b : List ℕ) (same : (i : ℕ) → i < 4 ^ n → number_at n T a i ≡ number_at n U b i) where
  -- an entry goes by the numbers of the pixels alone
  ifs : (k i v w : ℕ) → i < 4 ^ n → if_at n T a k i v w ≡ if_at n U b k i v w
  ifs k i v w lt = rw (same i lt)

  same_entry : (k : ℕ) → entry_of n T a k ≡ entry_of n U b k
  unfolding entry_of
  same_entry k =
      rw (
        sum_same (λ i. if_at n T a k i 1 0) (λ i. if_at n U b k i 1 0) (4 ^ n) (λ i l. ifs k i 1 0 l),
        least_same none (λ i. if_at n T a k i (i / 2 ^ n) none) (λ i. if_at n U b k i (i / 2 ^ n) none) (4 ^ n) (λ i l. ifs k i (i / 2 ^ n) none l),
        greatest_same (λ i. if_at n T a k i (i / 2 ^ n) 0) (λ i. if_at n U b k i (i / 2 ^ n) 0) (4 ^ n) (λ i l. ifs k i (i / 2 ^ n) 0 l),
        least_same none (λ i. if_at n T a k i (i % 2 ^ n) none) (λ i. if_at n U b k i (i % 2 ^ n) none) (4 ^ n) (λ i l. ifs k i (i % 2 ^ n) none l),
        greatest_same (λ i. if_at n T a k i (i % 2 ^ n) 0) (λ i. if_at n U b k i (i % 2 ^ n) 0) (4 ^ n) (λ i l. ifs k i (i % 2 ^ n) 0 l),
      )

  same_entries : (count k : ℕ) → entries_from n T a count k ≡ entries_from n U b count k
  unfolding entries_from
  same_entries zero k = refl
  same_entries (suc count) k = rw (same_entry k, same_entries count (k + 1))

-- two accepted tables of one picture: every pixel has one number, and the ponds have the same entries
pub picture_ponds : (n : ℕ) (T U a b : List ℕ) (c d : ℕ) → Accepted n T → Accepted n U
    → ((x y : ℕ) → x < 2 ^ n → y < 2 ^ n → pixel n T x y ≡ pixel n U x y) → Numbered n T a c → Numbered n U b d
    → ((i : ℕ) → i < 4 ^ n → number_at n T a i ≡ number_at n U b i) × (c ≡ d) × (entries n T a c ≡ entries n U b d)
picture_ponds n T U a b c d at au same na nb =
    let h = picture_numbering n T U a b c d at au same na nb in
    (h.0, h.1, same_entries n T U a b h.0 c 1 ∙ ap (entries n U b) h.1)
