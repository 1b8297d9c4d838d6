-- The entries of all ponds, where one changes, or none. So it is with a node passed.
use mathlib.Core.Bool.{cond}
use mathlib.Core.List.{List, ◌∷◌}
use mathlib.Core.Path.{◌≡◌, refl, ap, ap₂, sym, ◌∙◌}
use Prim.Native.Nat.{ℕ, zero, suc, ◌+◌, ◌*◌, ◌^◌, ◌≤◌, ◌<◌}
use native.Mathlib.Nat.{add-zero, not-suc-le-zero}
use native.Mathlib.Numerals.{add-one}
use native.Mathlib.Omega.{arith}
use lib.Dec.{eqb}
use lib.ListN.{length, get_or, set, replicate}
use borrow.Author.Tests.{eq-eqb, ne_eqb}
use Rattle.base.proofs.CaseLaws.{cond_case}
use Rattle.quad.specs.Numbers.{top_level}
use Rattle.table.specs.Table.{nodes}
use Rattle.table.specs.Blocks.{block_of}
use Rattle.table.proofs.BlockLaws.{on_sheet}
use Rattle.ponds.specs.declared.Pond.{Pond}
use Rattle.ponds.specs.Entries.{entry_of, entries_from}
use Rattle.ponds_entry.specs.Gathered.{empty_pond, grown_of, Fitting, gathered, ponds_from, gatherings, Numbers}
use Rattle.ponds_entry.proofs.GrownLaws.{square_small}

-- the ponds' entries where pond k's has changed
abbrev pub changed_at : ℕ → (Pond → Pond) → (ℕ → Pond) → ℕ → Pond
changed_at k g E j = cond (eqb k j) (g (E j)) (E j)

module _ (E : ℕ → Pond) where
  pub ponds_length : (count k : ℕ) → length (ponds_from E count k) ≡ count
  unfolding ponds_from
  ponds_length zero k = refl
  ponds_length (suc count) k = ap suc (ponds_length count (k + 1))

  pub ponds_at : (count k i : ℕ) (d : Pond) → i < count → get_or (ponds_from E count k) i d ≡ E (k + i)
  unfolding ponds_from
  ponds_at zero k i d h = absurd (not-suc-le-zero h)
  ponds_at (suc count) k zero d h = rw add-zero
  ponds_at (suc count) k (suc i) d h =
      let s : k + suc i ≡ k + 1 + i = omega arith in
      rw s (ponds_at count (k + 1) i d (omega arith))

  pub ponds_same : (F : ℕ → Pond) (count k : ℕ) → ((j : ℕ) → k ≤ j → E j ≡ F j) → ponds_from E count k ≡ ponds_from F count k
  unfolding ponds_from
  ponds_same F zero k h = refl
  ponds_same F (suc count) k h = ap₂ ◌∷◌ (h k (omega arith)) (ponds_same F count (k + 1) (λ j l. h j (omega arith)))

  -- a change of an entry whose number is below theirs
  below_all : (j : ℕ) (g : Pond → Pond) (count k : ℕ) → j < k → ponds_from (changed_at j g E) count k ≡ ponds_from E count k
  unfolding ponds_from
  below_all j g zero k h = refl
  below_all j g (suc count) k h = ap₂ ◌∷◌ (rw (ne_eqb j k (λ e. omega arith))) (below_all j g count (k + 1) (omega arith))

  -- of one that is theirs
  one_of : (j : ℕ) (g : Pond → Pond) (count k i : ℕ) → i < count → j ≡ k + i
      → ponds_from (changed_at j g E) count k ≡ set (ponds_from E count k) i (g (E (k + i)))
  unfolding ponds_from
  one_of j g zero k i h e = absurd (not-suc-le-zero h)
  one_of j g (suc count) k zero h e =
      let z : k + 0 ≡ k = add-zero k in
      rw z (ap₂ ◌∷◌ (rw (eq-eqb j k (e ∙ z))) (below_all j g count (k + 1) (omega arith)))
  one_of j g (suc count) k (suc i) h e =
      let s : k + suc i ≡ k + 1 + i = omega arith in
      rw s (ap₂ ◌∷◌ (rw (ne_eqb j k (λ q. omega arith))) (one_of j g count (k + 1) i (omega arith) (e ∙ s)))

  -- of one of ponds 1 to `count`: 0 is no pond's number
  module _ (j : ℕ) (g : Pond → Pond) (count : ℕ) where
    pub changed_none : j ≡ 0 → ponds_from (changed_at j g E) count 1 ≡ ponds_from E count 1
    changed_none e = below_all j g count 1 (omega arith)

    pub changed_one : (i : ℕ) → i < count → j ≡ suc i
        → ponds_from (changed_at j g E) count 1 ≡ set (ponds_from E count 1) i (g (get_or (ponds_from E count 1) i empty_pond))
    changed_one i h e =
        let s : 1 + i ≡ suc i = omega arith in
        rw (ponds_at count 1 i empty_pond h) (one_of j g count 1 i h (e ∙ sym s))

pub empty_ponds : (count k : ℕ) → ponds_from (λ j. empty_pond) count k ≡ replicate count empty_pond
unfolding ponds_from
empty_ponds zero k = refl
empty_ponds (suc count) k = ap (λ (es : List Pond). empty_pond ∷ es) (empty_ponds count (k + 1))

module _ (n : ℕ) (T numbers : List ℕ) where
  pub entries_ponds : (count k : ℕ) → ponds_from (entry_of n T numbers) count k ≡ entries_from n T numbers count k
  unfolding ponds_from entries_from
  entries_ponds zero k = refl
  entries_ponds (suc count) k = ap (λ (es : List Pond). entry_of n T numbers k ∷ es) (entries_ponds count (k + 1))

  -- before the first node, and with one node more
  pub gatherings_none : (count : ℕ) → gatherings n T numbers 0 count ≡ replicate count empty_pond
  unfolding gathered
  gatherings_none count = empty_ponds count 1

  pub gatherings_same : (p count : ℕ) → get_or numbers p 0 ≡ 0 → gatherings n T numbers (p + 1) count ≡ gatherings n T numbers p count
  unfolding gathered
  gatherings_same p count e = rw (add-one p) (changed_none (λ j. gathered n T numbers j p) (get_or numbers p 0) (λ e. grown_of e (block_of n T p)) count e)

  pub gatherings_more : (p count i : ℕ) → i < count → get_or numbers p 0 ≡ suc i
      → gatherings n T numbers (p + 1) count
      ≡ set (gatherings n T numbers p count) i (grown_of (get_or (gatherings n T numbers p count) i empty_pond) (block_of n T p))
  unfolding gathered
  gatherings_more p count i h e = rw (add-one p) (changed_one (λ j. gathered n T numbers j p) (get_or numbers p 0) (λ e. grown_of e (block_of n T p)) count i h e)

  module _ (count : ℕ) (s : Numbers n T numbers count) where
    -- a node's block has at most a sheet's pixels
    few_pixels : (k p : ℕ) → p ≤ nodes T → (gathered n T numbers k p).pixels ≤ p * (2 ^ top_level * 2 ^ top_level)
    unfolding gathered grown_of block_of
    few_pixels k zero h = omega arith
    few_pixels k (suc p) h =
        let less = few_pixels k p (omega arith) in
        let on = on_sheet (record { accepted = s.accepted; node = h }) in
        cond_case (λ (e : Pond). e.pixels ≤ suc p * (2 ^ top_level * 2 ^ top_level)) (eqb (get_or numbers p 0) k) _ _
        (λ e. omega (arith, square_small _ _ on.level refl))
        (λ e. omega arith)

    -- so there is room for each node that comes
    pub gathered_fits : (k p : ℕ) → p < nodes T → Fitting (gathered n T numbers k p) (block_of n T p)
    unfolding block_of
    gathered_fits k p h =
        let on = on_sheet (record { accepted = s.accepted; node = h }) in
        record {
          room = omega (arith, few_pixels k p (omega arith), s.accepted.sized.few);
          level = on.level;
          column = on.column;
          row = on.row;
        }
