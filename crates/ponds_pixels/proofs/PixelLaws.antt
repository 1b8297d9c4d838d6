-- The four pixels of a fork of level 1 passed at once: what is under the fork is what their numbers give each pond
-- (`FourLaws`), so where all that have a number have one, the register has it after one growth of that pond's entry.
use mathlib.Core.Bool.{Bool, true, false}
use mathlib.Core.List.{List}
use mathlib.Core.Logic.{⊎_elim}
use mathlib.Core.Path.{◌≡◌, refl, ap, sym, ◌∙◌}
use Prim.Native.Nat.{ℕ, ◌+◌, ◌-◌, ◌*◌, ◌/◌, ◌%◌, ◌^◌, ◌≤◌, ◌<◌, min, max}
use native.Mathlib.Omega.{arith}
use lib.Dec.{eqb}
use lib.ListN.{length, get_or}
use borrow.Author.Tests.{eqb-true, eqb-false}
use Rattle.base.proofs.BoolLaws.{by_bool}
use Rattle.quad.specs.Numbers.{none}
use Rattle.table.specs.declared.Block.{Block}
use Rattle.table.specs.Table.{son, is_fork}
use Rattle.table.specs.Nodes.{side_of, left_of, top_of}
use Rattle.table.specs.Blocks.{block_of}
use Rattle.table.proofs.AcceptedLaws.{sons_of}
use Rattle.ponds.specs.declared.Pond.{Pond}
use Rattle.ponds_entry.specs.Gathered.{Fitting}
use Rattle.ponds_entry.specs.Words.{pond_at, put_at, register_of, Passing}
use Rattle.ponds_pixels.specs.Four.{alike_of, grown_four}
use Rattle.ponds_entry.specs.Under.{block_from, quarter_of, fold_under, if_has, under_of, together, with_under, Entering}
use Rattle.ponds_entry.proofs.EntryLaws.{same_pond}
use Rattle.ponds_entry.proofs.GatheredLaws.{changed_at}
use Rattle.ponds_entry.proofs.WordLaws.{register_passing, register_changed, register_same, passing_stands, passing_fits}
use Rattle.ponds_pixels.proofs.FourLaws.{OnlyFour, alike_only, four_of, pixels_give, alike_own, alike_other}
use Rattle.ponds_pixels.proofs.UnderLaws.{part_block, fits}

module _ {T numbers : List ℕ} {p column row : ℕ} {words : List ℕ} (z : Entering T numbers p (block_from column row 1) words) (f : is_fork T p ≡ true) where
  abbrev n : ℕ
  n = z.n

  pixel_block : (q : ℕ) → q < 4 → block_of n T (son T p q) ≡ quarter_of (block_from column row 1) q
  pixel_block q q4 = sym (ap (λ (b : Block). quarter_of b q) z.block ∙ part_block n T p q z.told.accepted z.node f q4)

  pub pixel_below : (q : ℕ) → q < 4 → son T p q < length numbers
  pixel_below q q4 = omega (arith, (sons_of n T z.told.accepted p z.node f q q4).below, z.told.words)

  -- a pixel's place
  record Pixel (q x y : ℕ) : Type 0 where
    area : side_of n T (son T p q) * side_of n T (son T p q) ≡ 1
    top : top_of n T (son T p q) ≡ y
    bottom : top_of n T (son T p q) + (side_of n T (son T p q) - 1) ≡ y
    left : left_of n T (son T p q) ≡ x
    right : left_of n T (son T p q) + (side_of n T (son T p q) - 1) ≡ x

  pixel_at : (q x y : ℕ) → q < 4 → 2 * column + q % 2 ≡ x → 2 * row + q / 2 ≡ y → Pixel q x y
  unfolding block_of
  pixel_at q x y q4 ex ey =
      let e = pixel_block q q4 in
      record {
        area = ap (λ (b : Block). 2 ^ b.level * 2 ^ b.level) e;
        top = ap (λ (b : Block). b.row * 2 ^ b.level) e ∙ omega arith;
        bottom = ap (λ (b : Block). b.row * 2 ^ b.level + (2 ^ b.level - 1)) e ∙ omega arith;
        left = ap (λ (b : Block). b.column * 2 ^ b.level) e ∙ omega arith;
        right = ap (λ (b : Block). b.column * 2 ^ b.level + (2 ^ b.level - 1)) e ∙ omega arith;
      }

  abbrev number : ℕ → ℕ
  number q = get_or numbers (son T p q) 0

  -- the pixels' values taken together
  folded : (k : ℕ) (op : ℕ → ℕ → ℕ) (v : ℕ → ℕ) (w : ℕ) {a b c d : ℕ} → v (son T p 0) ≡ a → v (son T p 1) ≡ b → v (son T p 2) ≡ c → v (son T p 3) ≡ d
      → fold_under op (λ s. if_has numbers k s (v s) w) T 1 p ≡ four_of k (number 0) (number 1) (number 2) (number 3) op w a b c d
  unfolding fold_under
  folded k op v w ea eb ec ed = rw (f, ea, eb, ec, ed)

  under_four : (k : ℕ) → under_of n T numbers 1 p k ≡ pixels_give k (number 0) (number 1) (number 2) (number 3) column row
  unfolding under_of pixels_give
  under_four k =
      let nw = pixel_at 0 (2 * column) (2 * row) (omega arith) (omega arith) (omega arith) in
      let ne = pixel_at 1 (2 * column + 1) (2 * row) (omega arith) (omega arith) (omega arith) in
      let sw = pixel_at 2 (2 * column) (2 * row + 1) (omega arith) (omega arith) (omega arith) in
      let se = pixel_at 3 (2 * column + 1) (2 * row + 1) (omega arith) (omega arith) (omega arith) in
      same_pond _ _
      (folded k ◌+◌ (λ s. side_of n T s * side_of n T s) 0 nw.area ne.area sw.area se.area)
      (folded k min (top_of n T) none nw.top ne.top sw.top se.top)
      (folded k max (λ s. top_of n T s + (side_of n T s - 1)) 0 nw.bottom ne.bottom sw.bottom se.bottom)
      (folded k min (left_of n T) none nw.left ne.left sw.left se.left)
      (folded k max (λ s. left_of n T s + (side_of n T s - 1)) 0 nw.right ne.right sw.right se.right)

  -- the four numbers as the code has them, and their greatest
  module _
      {nw ne sw se north south k : ℕ}
      (e0 : nw ≡ number 0)
      (e1 : ne ≡ number 1)
      (e2 : sw ≡ number 2)
      (e3 : se ≡ number 3)
      (en : north ≡ max nw ne)
      (es : south ≡ max sw se)
      (ek : k ≡ max north south) where
    greatest : k ≡ max (max nw ne) (max sw se)
    greatest = rw (← en, ← es) ek

    few : k ≤ z.count
    few =
        let at : (q : ℕ) → q < 4 → number q ≤ z.count = λ q q4. z.told.few (son T p q) (sons_of n T z.told.accepted p z.node f q q4).below in
        omega (arith, greatest, e0, e1, e2, e3, at 0 (omega arith), at 1 (omega arith), at 2 (omega arith), at 3 (omega arith))

    with_four : (j : ℕ) → with_under n T numbers 1 p z.E j ≡ together (z.E j) (pixels_give j nw ne sw se column row)
    with_four j = rw (under_four j, ← e0, ← e1, ← e2, ← e3)

    other : {m : ℕ} → OnlyFour m nw ne sw se → (j : ℕ) → 0 < j → (m ≡ j → ⊥) → z.E j ≡ with_under n T numbers 1 p z.E j
    other {m} h j pos ne' = sym (with_four j ∙ alike_other (z.E j) m column row nw ne sw se h j pos ne' (z.top j) (z.left j))

    -- no pixel has a number
    pub pixels_none : k ≡ 0 → words ≡ register_of z.count z.before (with_under n T numbers 1 p z.E)
    pixels_none e =
        let all : OnlyFour 0 nw ne sw se = omega (arith, greatest) in
        z.stands ∙ register_same z.count z.before z.E _ (λ j pos. other all j pos (λ i. omega arith))

    module _ (some : k ≡ 0 → ⊥) where
      passing : Passing (block_from column row 1) k words
      passing = rw z.stands (register_passing z.count z.before z.E z.long (block_from column row 1) k few (fits z k))

      pub four_stands : 5 * (k - 1) + 5 ≤ length words
      four_stands = passing_stands _ _ _ passing k refl some

      pub four_fits : Fitting (pond_at words (k - 1)) (block_from column row 1)
      four_fits = passing_fits _ _ _ passing k refl some

      -- all that have a number have one
      pub pixels_alike : (t : Bool) (words' : List ℕ) → t ≡ alike_of k nw ne sw se → t ≡ true
          → words' ≡ put_at words (k - 1) (grown_four (pond_at words (k - 1)) column row nw ne sw se)
          → words' ≡ register_of z.count z.before (with_under n T numbers 1 p z.E)
      pixels_alike t words' et holds e =
          let g : Pond → Pond = λ e. grown_four e column row nw ne sw se in
          let only = alike_only k nw ne sw se (omega (arith, greatest)) (omega (arith, greatest)) (omega (arith, greatest)) (omega (arith, greatest)) (sym et ∙ holds) in
          let fit = fits z k in
          e
          ∙ (ap (λ (ws : List ℕ). put_at ws (k - 1) (g (pond_at ws (k - 1)))) z.stands
          ∙ (register_changed z.count z.before z.E z.long g k (omega arith) few
          ∙ register_same z.count z.before (changed_at k g z.E) _
          (λ j pos.
          ⊎_elim
          (λ (same : eqb k j ≡ true).
          let is : k ≡ j = eqb-true k j same in
          rw (same, ← is) (sym (with_four k ∙ alike_own (z.E k) k column row nw ne sw se only (omega arith) greatest (omega (arith, fit.row)) (omega (arith, fit.column)))))
          (λ (apart : eqb k j ≡ false). rw apart (other only j pos (eqb-false k j apart)))
          (by_bool (eqb k j)))))
