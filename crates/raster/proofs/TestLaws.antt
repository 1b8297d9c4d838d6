-- The refusals of building in their order: the raster's length, its first byte that is no colour; and what is known of
-- a raster that passes.
use Rattle.std.specs.Prelude.{Ok, Err}
use mathlib.Core.Bool.{Bool, true, false, not, false≢true}
use mathlib.Core.List.{List, [], ◌∷◌}
use mathlib.Core.Logic.{⊎_elim}
use mathlib.Core.Path.{◌≡◌, refl, ap, sym, ◌∙◌}
use Prim.Native.Nat.{ℕ, zero, suc, ◌+◌, ◌-◌, ◌*◌, ◌^◌, ◌≤◌, ◌<◌}
use native.Mathlib.Nat.{eq-or-lt_of_le, le_of_suc-le-suc}
use native.Mathlib.Numerals.{add-one}
use native.Mathlib.Omega.{arith}
use lib.Dec.{eqb, ltb}
use lib.ListN.{length, get_or, drop}
use lib.Seq.{drop-cons, drop-length}
use Rattle.std.proofs.Common.{Option, Some, None}
use Rattle.std.specs.List.{position, position_from}
use Rattle.std.proofs.lemmas.Iterator.Adapters.{position_from-zero}
use borrow.Author.Tests.{eq-eqb, ne_eqb, eqb-true, lt-ltb, le-ltb, ltb-true, ltb-false}
use Rattle.base.proofs.BoolLaws.{on, by_bool}
use Rattle.base.proofs.PowLaws.{four_pow}
use Rattle.std.specs.Result.{IsErr, IsErrAnd}
use Rattle.answer.specs.declared.Refusal.{Refusal}
use Rattle.answer.specs.declared.Refusal.TheVariants.{BadLevel, WrongLength, BadPixel}
use Rattle.answer.specs.Numbers.{Outcome, answers, and_then, unless}
use Rattle.answer.proofs.OutcomeLaws.{then_err, then_ok, both_answer, answers_unless}
use Rattle.quad.specs.Numbers.{top_level, top_colour}
use Rattle.quad.proofs.TreeLaws.{pixels_top}
use Rattle.raster.specs.Raster.{raster_length, pixels_from}
use Rattle.raster.specs.Blocks.{NoneAbove, Picture, readable_of}

-- the length
module _ (n bytes s : ℕ) (e : s ≡ 2 ^ n) where
  pub length_wrong : (bytes ≡ s * s → ⊥) → Err (WrongLength 1) ≡ raster_length n bytes
  length_wrong z = rw (ne_eqb bytes (4 ^ n) (λ q. z (q ∙ four_pow n ∙ rw (← e))))

  pub length_right : bytes ≡ s * s → Ok 0 ≡ raster_length n bytes
  length_right q = rw (eq-eqb bytes (4 ^ n) (q ∙ rw e (sym (four_pow n))))

-- the first bad byte, from place i on
module _ (R : List ℕ) where
  pub pixels_next : (i : ℕ) → i < length R → get_or R i 0 ≤ top_colour → pixels_from (drop i R) i ≡ pixels_from (drop (i + 1) R) (i + 1)
  unfolding pixels_from
  pixels_next i lt h = rw (drop-cons R i 0 lt, add-one, pixels_from, le-ltb top_colour (get_or R i 0) h)

  pub pixels_bad : (i : ℕ) → i < length R → top_colour < get_or R i 0 → pixels_from (drop i R) i ≡ Err (BadPixel i)
  unfolding pixels_from
  pixels_bad i lt h = rw (drop-cons R i 0 lt, pixels_from, lt-ltb top_colour (get_or R i 0) h)

  pub pixels_end : (i : ℕ) → i ≤ length R → length R ≤ i → pixels_from (drop i R) i ≡ Ok 0
  unfolding pixels_from
  pixels_end i le ge =
      let e : i ≡ length R = omega arith in
      rw (e, drop-length R)

-- and by its place
told : Option ℕ → Outcome
told None = Ok 0
told (Some i) = Err (BadPixel i)

pixels_told : (R : List ℕ) (i : ℕ) → pixels_from R i ≡ told (position_from (λ b. ltb top_colour b) i R)
unfolding pixels_from told
pixels_told [] i = refl
pixels_told (b ∷ bs) i = go (ltb top_colour b) refl (pixels_told bs (i + 1))
  where
    go : (u : Bool) → ltb top_colour b ≡ u → pixels_from bs (i + 1) ≡ told (position_from (λ b. ltb top_colour b) (i + 1) bs)
        → pixels_from (b ∷ bs) i ≡ told (position_from (λ b. ltb top_colour b) i (b ∷ bs))
    go true q ih = rw (pixels_from, q)
    go false q ih = rw (pixels_from, q) ih

module _ (R : List ℕ) (r : Option ℕ) (e : r ≡ position (λ b. ltb top_colour b) R) where
  pub pixels_found : (i : ℕ) → r ≡ Some i → Err (BadPixel i) ≡ pixels_from R 0
  unfolding told
  pixels_found i q = rw (pixels_told, ← position_from-zero, ← e, q) refl

  pub pixels_passed : r ≡ None → Ok 0 ≡ pixels_from R 0
  unfolding told
  pixels_passed q = rw (pixels_told, ← position_from-zero, ← e, q) refl

-- none, where no byte is above the top colour
pub pixels_pass : (R : List ℕ) (i : ℕ) → NoneAbove top_colour R → pixels_from R i ≡ Ok 0
unfolding pixels_from
pixels_pass [] i h = refl
pixels_pass (b ∷ bs) i h = rw (pixels_from, le-ltb top_colour b (h 0 (omega arith))) (pixels_pass bs (i + 1) (λ j lt. h (suc j) (omega arith)))

-- and so where the highest is no higher
pub pixels_low : (R : List ℕ) (m : ℕ) → NoneAbove m R → m ≤ top_colour → Ok 0 ≡ pixels_from R 0
pixels_low R m h le = sym (pixels_pass R 0 (λ i lt. omega (arith, h i lt)))

pub length_of : (n bytes : ℕ) → answers (raster_length n bytes) ≡ true → bytes ≡ 4 ^ n
length_of n bytes e = eqb-true bytes (4 ^ n) (on _ _ refl (answers_unless (not (eqb bytes (4 ^ n))) (Err (WrongLength 1)) refl e))

-- every byte of a raster with no bad byte is a colour
pixels_good : (R : List ℕ) (i j : ℕ) → answers (pixels_from R i) ≡ true → get_or R j 0 ≤ top_colour
unfolding pixels_from
pixels_good [] i j e = omega arith
pixels_good (b ∷ bs) i j e = go (ltb top_colour b) refl (λ k. pixels_good bs (i + 1) k) j
  where
    go : (u : Bool) → ltb top_colour b ≡ u → ((k : ℕ) → answers (pixels_from bs (i + 1)) ≡ true → get_or bs k 0 ≤ top_colour) → (j : ℕ) → get_or (b ∷ bs) j 0 ≤ top_colour
    go true q ih j = absurd (false≢true (rw q at e))
    go false q ih zero = ltb-false top_colour b q
    go false q ih (suc j) = ih j (rw q at e)

-- the tests in their order
module _ (n : ℕ) (R : List ℕ) where
  pub readable_level : top_level < n → Err (BadLevel 0) ≡ readable_of n R
  unfolding readable_of
  readable_level h = rw (readable_of, lt-ltb top_level n h)

  module _ (top : n ≤ top_level) where
    readable_tests : readable_of n R ≡ and_then (raster_length n (length R)) (pixels_from R 0)
    unfolding readable_of
    readable_tests = rw (readable_of, le-ltb top_level n top)

    pub readable_length : (r : Outcome) (e : Refusal) → IsErr r × IsErrAnd r (λ x. x ≡ e) → Err e ≡ raster_length n (length R) → r ≡ readable_of n R
    readable_length r e g h = then_err (raster_length n (length R)) (pixels_from R 0) r e g h ∙ sym readable_tests

    module _ (v : ℕ) (sized : Ok v ≡ raster_length n (length R)) where
      pub readable_short : length R ≤ 4 ^ top_level
      readable_short = rw (length_of n (length R) (ap answers (sym sized))) (pixels_top n top)

      pub readable_pixels : (r : Outcome) → r ≡ pixels_from R 0 → r ≡ readable_of n R
      readable_pixels r f = then_ok (raster_length n (length R)) (pixels_from R 0) r v sized f ∙ sym readable_tests

  -- a raster that passes
  pub readable_picture : answers (readable_of n R) ≡ true → Picture n R
  unfolding readable_of
  readable_picture e =
      let g = both_answer (unless (ltb top_level n) (Err (BadLevel 0))) _ e in
      let h = both_answer (raster_length n (length R)) (pixels_from R 0) g.1 in
      record {
        top = ltb-false top_level n (answers_unless (ltb top_level n) (Err (BadLevel 0)) refl g.0);
        whole = length_of n (length R) h.0;
        colours = λ i. pixels_good R 0 i h.1;
      }

-- four parts of p bytes each, looked at together: none of their first i is above m
module _ (R : List ℕ) (p : ℕ) where
  abbrev pub Below : ℕ → ℕ → Type 0
  Below m j = (get_or R j 0 ≤ m) × (get_or R (p + j) 0 ≤ m) × (get_or R (2 * p + j) 0 ≤ m) × (get_or R (3 * p + j) 0 ≤ m)

  pub none_above_next : (m k i : ℕ) → ((j : ℕ) → j < i → Below m j) → m ≤ k → Below k i → (j : ℕ) → j < i + 1 → Below k j
  none_above_next m k i h le now j lt =
      ⊎_elim
      (λ (e : j ≡ i). rw e now)
      (λ (less : j < i). let b = h j less in (omega arith, omega arith, omega arith, omega arith))
      (eq-or-lt_of_le (le_of_suc-le-suc (rw add-one at lt)))

  pub none_above_all : (m : ℕ) → length R ≡ 4 * p → ((j : ℕ) → j < p → Below m j) → NoneAbove m R
  none_above_all m long h i lt =
      ⊎_elim
      (λ (a : ltb i p ≡ true). (h i (ltb-true i p a)).0)
      (λ (a : ltb i p ≡ false).
      let a₁ = ltb-false i p a in
      ⊎_elim
      (λ (b : ltb i (2 * p) ≡ true). let b₁ = ltb-true i (2 * p) b in rw (back i p a₁) at (h (i - p) (omega arith)).1)
      (λ (b : ltb i (2 * p) ≡ false).
      let b₁ = ltb-false i (2 * p) b in
      ⊎_elim
      (λ (c : ltb i (3 * p) ≡ true). let c₁ = ltb-true i (3 * p) c in rw (back i (2 * p) b₁) at (h (i - 2 * p) (omega arith)).2)
      (λ (c : ltb i (3 * p) ≡ false). let c₁ = ltb-false i (3 * p) c in rw (back i (3 * p) c₁) at (h (i - 3 * p) (omega arith)).3)
      (by_bool (ltb i (3 * p))))
      (by_bool (ltb i (2 * p))))
      (by_bool (ltb i p))
    where
      back : (i k : ℕ) → k ≤ i → k + (i - k) ≡ i
      back i k le = omega arith
