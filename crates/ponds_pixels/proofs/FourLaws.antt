-- Four pixels by their numbers. Where the greatest, as often as there are numbers, is their sum, each is 0 or that one;
-- then one growth gives the pond of that number what they give it, and they give no other pond anything.
use mathlib.Core.Bool.{Bool, true, false, not, cond, ◌||◌}
use mathlib.Core.List.{List}
use mathlib.Core.Logic.{⊎_elim}
use mathlib.Core.Path.{◌≡◌, refl, ap, sym, ◌∙◌}
use Prim.Native.Nat.{ℕ, ◌+◌, ◌-◌, ◌*◌, ◌≤◌, ◌<◌, min, max}
use native.Mathlib.Nat.{eq-zero-or-pos, mul-le-mul}
use native.Mathlib.Omega.{arith}
use lib.Dec.{eqb}
use mir.Syntax.{w32, w64}
use mir.Val.{Fits}
use borrow.Author.Tests.{eq-eqb, ne_eqb, eqb-true}
use Rattle.quad.specs.Numbers.{none}
use Rattle.ponds.specs.declared.Pond.{Pond}
use Rattle.ponds_entry.specs.Words.{pond_at, put_at}
use Rattle.ponds_pixels.specs.Four.{present_of, either_of, many_of, alike_of, grown_four}
use Rattle.ponds_entry.specs.Under.{together}
use Rattle.ponds_entry.proofs.EntryLaws.{same_pond}

-- what the code has
pub alike_is : (k nw ne sw se many : ℕ) → many ≡ many_of nw ne sw se → eqb (k * many) (nw + ne + sw + se) ≡ alike_of k nw ne sw se
unfolding alike_of
alike_is k nw ne sw se many e = rw e

pub times_fits : (k many : ℕ) → Fits w32 k → many ≤ 4 → Fits w64 (k * many)
times_fits k many h few =
    let most : k * many ≤ k * 4 = mul-le-mul {n₂ = k} {m₂ = 4} (omega arith) few in
    omega arith

pub four_is : (e : Pond) (column row nw ne sw se many north south west east top bottom left right : ℕ)
    → many ≡ many_of nw ne sw se
    → north ≡ either_of nw ne → south ≡ either_of sw se → west ≡ either_of nw sw → east ≡ either_of ne se
    → top ≡ min e.top (2 * row + 1 - north) → bottom ≡ max e.bottom (2 * row + south)
    → left ≡ min e.left (2 * column + 1 - west) → right ≡ max e.right (2 * column + east)
    → ◌≡◌ {A = Pond} (record { pixels = e.pixels + many; top = top; bottom = bottom; left = left; right = right }) (grown_four e column row nw ne sw se)
unfolding grown_four
four_is e column row nw ne sw se many north south west east top bottom left right em en es ew ee et eb el er =
    rw (et, eb, el, er, en, es, ew, ee, em)

pub four_written : (reg out : List ℕ) (i : ℕ) (e g : Pond) (column row nw ne sw se : ℕ) → e ≡ pond_at reg i → g ≡ grown_four e column row nw ne sw se → out ≡ put_at reg i g
    → out ≡ put_at reg i (grown_four (pond_at reg i) column row nw ne sw se)
four_written reg out i e g column row nw ne sw se ee eg eo = rw (eo, eg, ee)

-- x is 0, as it is where it has no number, or k
abbrev pub Only : ℕ → ℕ → Type 0
Only k x = x ≡ k * present_of x

-- so are all four
abbrev pub OnlyFour : ℕ → ℕ → ℕ → ℕ → ℕ → Type 0
OnlyFour k nw ne sw se = Only k nw × Only k ne × Only k sw × Only k se

up_to : (k x : ℕ) → x ≤ k → x ≤ k * present_of x
unfolding present_of
up_to k x h = ⊎_elim (λ (z : x ≡ 0). omega arith) (λ (pos : 0 < x). rw (ne_eqb x 0 (λ e. omega arith)) (omega arith)) (eq-zero-or-pos x)

pub alike_only : (k nw ne sw se : ℕ) → nw ≤ k → ne ≤ k → sw ≤ k → se ≤ k → alike_of k nw ne sw se ≡ true → OnlyFour k nw ne sw se
unfolding alike_of
alike_only k nw ne sw se a b c d h =
    let e : k * many_of nw ne sw se ≡ nw + ne + sw + se = eqb-true _ _ h in
    omega (arith, e, up_to k nw a, up_to k ne b, up_to k sw c, up_to k se d)

module _ {k x : ℕ} (h : Only k x) where
  only_some : 0 < x → x ≡ k
  unfolding present_of
  only_some pos = let e : x ≡ k * 1 = rw (ne_eqb x 0 (λ z. omega arith)) at h in omega arith

  -- where it is not 0, it is k
  only_test : 0 < k → eqb x 0 ≡ not (eqb x k)
  only_test pos =
      ⊎_elim
      (λ (z : x ≡ 0). rw (eq-eqb x 0 z, ne_eqb x k (λ e. omega arith)))
      (λ (some : 0 < x). rw (ne_eqb x 0 (λ e. omega arith), eq-eqb x k (only_some some)))
      (eq-zero-or-pos x)

  only_other : (j : ℕ) → 0 < j → (k ≡ j → ⊥) → eqb x j ≡ false
  only_other j pos other = ne_eqb x j (λ e. other (sym (only_some (omega arith)) ∙ e))

-- the least and the greatest of two places in one line, and of two lines: a test says whether the place counts
pair_least : (v top : ℕ) (s t : Bool) → v ≤ top → min (cond s v top) (cond t v top) ≡ cond (s || t) v top
pair_least v top true true h = omega arith
pair_least v top true false h = omega arith
pair_least v top false true h = omega arith
pair_least v top false false h = omega arith

pair_greatest : (v : ℕ) (s t : Bool) → max (cond s v 0) (cond t v 0) ≡ cond (s || t) v 0
pair_greatest v true true = omega arith
pair_greatest v true false = omega arith
pair_greatest v false true = omega arith
pair_greatest v false false = omega arith

abbrev bit : Bool → ℕ
bit t = cond t 1 0

lines_least : (e v top : ℕ) (s t : Bool) → 1 ≤ bit s + bit t → v < top → min e (min (cond s v top) (cond t (v + 1) top)) ≡ min e (v + 1 - bit s)
lines_least e v top true true some h = omega arith
lines_least e v top true false some h = omega arith
lines_least e v top false true some h = omega arith
lines_least e v top false false some h = absurd (omega arith)

lines_greatest : (e v : ℕ) (s t : Bool) → 1 ≤ bit s + bit t → max e (max (cond s v 0) (cond t (v + 1) 0)) ≡ max e (v + bit t)
lines_greatest e v true true some = omega arith
lines_greatest e v true false some = omega arith
lines_greatest e v false true some = omega arith
lines_greatest e v false false some = absurd (omega arith)

twice : (s t : Bool) → bit s + bit t ≤ 2 * bit (s || t)
twice true true = omega arith
twice true false = omega arith
twice false true = omega arith
twice false false = omega arith

-- of four places, two in each line
module _ (e v : ℕ) (a b c d : Bool) (some : 1 ≤ bit a + bit b + bit c + bit d) where
  four_least : (top : ℕ) → v < top
      → min e (min (min (cond a v top) (cond b v top)) (min (cond c (v + 1) top) (cond d (v + 1) top))) ≡ min e (v + 1 - bit (a || b))
  four_least top h =
      rw (pair_least v top a b (omega arith), pair_least (v + 1) top c d (omega arith))
      (lines_least e v top (a || b) (c || d) (omega (arith, twice a b, twice c d)) h)

  four_greatest : max e (max (max (cond a v 0) (cond b v 0)) (max (cond c (v + 1) 0) (cond d (v + 1) 0))) ≡ max e (v + bit (c || d))
  four_greatest = rw (pair_greatest v a b, pair_greatest (v + 1) c d) (lines_greatest e v (a || b) (c || d) (omega (arith, twice a b, twice c d)))

-- what the four pixels of a fork in that column and row give pond k
abbrev four : (ℕ → ℕ → ℕ) → ℕ → ℕ → ℕ → ℕ → ℕ
four op a b c d = op (op (op a b) c) d

module _ (k nw ne sw se : ℕ) where
  abbrev pub four_of : (ℕ → ℕ → ℕ) → ℕ → ℕ → ℕ → ℕ → ℕ → ℕ
  four_of op w a b c d = four op (cond (eqb nw k) a w) (cond (eqb ne k) b w) (cond (eqb sw k) c w) (cond (eqb se k) d w)

  unfoldable pub pixels_give : ℕ → ℕ → Pond
  pixels_give column row = record {
    pixels = four_of ◌+◌ 0 1 1 1 1;
    top = four_of min none (2 * row) (2 * row) (2 * row + 1) (2 * row + 1);
    bottom = four_of max 0 (2 * row) (2 * row) (2 * row + 1) (2 * row + 1);
    left = four_of min none (2 * column) (2 * column + 1) (2 * column) (2 * column + 1);
    right = four_of max 0 (2 * column) (2 * column + 1) (2 * column) (2 * column + 1);
  }

-- two by two: rows, and columns
rows_least : (e a b c d : ℕ) → min e (four min a b c d) ≡ min e (min (min a b) (min c d))
rows_least e a b c d = ap (min e) (omega arith)

rows_greatest : (e a b c d : ℕ) → max e (four max a b c d) ≡ max e (max (max a b) (max c d))
rows_greatest e a b c d = ap (max e) (omega arith)

columns_least : (e a b c d : ℕ) → min e (four min a b c d) ≡ min e (min (min a c) (min b d))
columns_least e a b c d = ap (min e) (omega arith)

columns_greatest : (e a b c d : ℕ) → max e (four max a b c d) ≡ max e (max (max a c) (max b d))
columns_greatest e a b c d = ap (max e) (omega arith)

-- whether there is a number, by whether it is k
turned : (s : Bool) → ◌≡◌ {A = ℕ} (cond (not s) 0 1) (bit s)
turned true = refl
turned false = refl

turned_two : (s t : Bool) → cond (not s) (bit t) 1 ≡ bit (s || t)
turned_two true t = refl
turned_two false t = refl

module _ {k : ℕ} (pos : 0 < k) where
  present_test : {x : ℕ} → Only k x → present_of x ≡ bit (eqb x k)
  unfolding present_of
  present_test {x} h = rw (only_test h pos) (turned (eqb x k))

  either_test : {x y : ℕ} → Only k x → Only k y → either_of x y ≡ bit (eqb x k || eqb y k)
  unfolding either_of
  either_test {x} {y} h h' = rw (only_test h pos, present_test h') (turned_two (eqb x k) (eqb y k))

-- where all that have a number have number k
module _ (e : Pond) (k column row nw ne sw se : ℕ) (h : OnlyFour k nw ne sw se) where
  many_some : 0 < k → k ≡ max (max nw ne) (max sw se) → 1 ≤ many_of nw ne sw se
  many_some pos is =
      ⊎_elim
      (λ (z : many_of nw ne sw se ≡ 0).
      let all : nw + ne + sw + se ≡ k * many_of nw ne sw se = omega (arith, h.0, h.1, h.2, h.3) in
      let none : nw + ne + sw + se ≡ k * 0 = rw z at all in
      absurd (omega arith))
      (λ some. some)
      (eq-zero-or-pos (many_of nw ne sw se))

  pub alike_own : 0 < k → k ≡ max (max nw ne) (max sw se) → 2 * row < none → 2 * column < none
      → together e (pixels_give k nw ne sw se column row) ≡ grown_four e column row nw ne sw se
  unfolding together pixels_give grown_four
  alike_own pos is low low' =
      let nw' : Bool = eqb nw k in
      let ne' : Bool = eqb ne k in
      let sw' : Bool = eqb sw k in
      let se' : Bool = eqb se k in
      let a : present_of nw ≡ bit nw' = present_test pos h.0 in
      let b : present_of ne ≡ bit ne' = present_test pos h.1 in
      let c : present_of sw ≡ bit sw' = present_test pos h.2 in
      let d : present_of se ≡ bit se' = present_test pos h.3 in
      let rows : 1 ≤ bit nw' + bit ne' + bit sw' + bit se' = omega (arith, many_some pos is, a, b, c, d) in
      let columns : 1 ≤ bit nw' + bit sw' + bit ne' + bit se' = omega arith in
      rw (
        a,
        b,
        c,
        d,
        either_test pos h.0 h.1,
        either_test pos h.2 h.3,
        either_test pos h.0 h.2,
        either_test pos h.1 h.3,
      )
      (same_pond _ _ (omega arith)
      (rows_least _ _ _ _ _ ∙ four_least e.top (2 * row) nw' ne' sw' se' rows none low)
      (rows_greatest _ _ _ _ _ ∙ four_greatest e.bottom (2 * row) nw' ne' sw' se' rows)
      (columns_least _ _ _ _ _ ∙ four_least e.left (2 * column) nw' sw' ne' se' columns none low')
      (columns_greatest _ _ _ _ _ ∙ four_greatest e.right (2 * column) nw' sw' ne' se' columns))

  pub alike_other : (j : ℕ) → 0 < j → (k ≡ j → ⊥) → e.top ≤ none → e.left ≤ none → together e (pixels_give j nw ne sw se column row) ≡ e
  unfolding together pixels_give
  alike_other j pos other t l =
      rw (only_other h.0 j pos other, only_other h.1 j pos other, only_other h.2 j pos other, only_other h.3 j pos other)
      (same_pond _ _ (omega arith) (omega arith) (omega arith) (omega arith) (omega arith))
