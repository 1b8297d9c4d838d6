-- Types noted in slots: how a block's slots are laid out, that notes outside of a block's slots stay, and that a
-- block's note follows from its quarters'.
use mathlib.Core.Bool.{Bool, true, false, cond}
use mathlib.Core.List.{List}
use mathlib.Core.Logic.{⊎_elim}
use mathlib.Core.Path.{◌≡◌, refl, ap, sym, ◌∙◌}
use Prim.Native.Nat.{ℕ, zero, suc, ◌+◌, ◌-◌, ◌*◌, ◌/◌, ◌%◌, ◌^◌, ◌≤◌, ◌<◌}
use native.Mathlib.Nat.{suc-mul, mul_assoc, mul-le-mul_right, pow-succ', eq-or-lt_of_le, le_of_suc-le-suc}
use native.Mathlib.Omega.{arith}
use lib.Dec.{eqb}
use lib.ListN.{length, get_or, set, length-set}
use lib.Pow.{pow_pos}
use lib.Seq.{get_or-set_same, get_or-set_other}
use borrow.Author.Tests.{ne_eqb, eqb-true, eqb-false}
use Rattle.base.specs.Tab.{sum}
use Rattle.base.proofs.BoolLaws.{by_bool}
use Rattle.base.proofs.SumLaws.{sum_most}
use Rattle.quad.specs.Numbers.{fork_type, top_level, max_words}
use Rattle.quad.specs.Tree.{son_of, colour, size_of, like_types, tree_of}
use Rattle.quad.proofs.TreeLaws.{leaf_by_type, size_fits}
use Rattle.quad.proofs.PictureLaws.{tree_son, tree_within}
use Rattle.raster.specs.Sums.{Colours}
use Rattle.raster_lanes.specs.Lanes.{window, black_row, eight_rows, kind_of}
use Rattle.raster_notes.specs.Notes.{slots_of, part_at, Noted, Kept, NotedSize, Lies, joined_of, Parts}
use Rattle.raster_lanes.proofs.KindLaws.{joined_kind, fork_nodes}
use Rattle.raster_lanes.proofs.WindowLaws.{window_few, window_moved}
use Rattle.raster_notes.proofs.TellLaws.{Tells, told_kind, told_quarters, window_coloured, leaf_nodes}

-- five levels have 341 slots
pub slots_fit : (e : ℕ) → e ≤ 4 → slots_of e ≤ 341
unfolding slots_of
slots_fit zero le = omega arith
slots_fit (suc zero) le = omega arith
slots_fit (suc (suc zero)) le = omega arith
slots_fit (suc (suc (suc zero))) le = omega arith
slots_fit (suc (suc (suc (suc zero)))) le = omega arith
slots_fit (suc (suc (suc (suc (suc e))))) le = absurd (omega arith)

pub slots_next : (l t : ℕ) → 3 ≤ l → t ≡ slots_of (l - 3) → 4 * t + 1 ≡ slots_of (l + 1 - 3)
slots_next l t le e =
    let s : l + 1 - 3 ≡ suc (l - 3) = omega arith in
    rw (s, e) (unfold slots_of in refl)

pub slots_done : (n l t : ℕ) → n ≤ l → l - 3 ≤ n - 3 → 3 ≤ l → t ≡ slots_of (l - 3) → t ≡ slots_of (n - 3)
slots_done n l t ge le low e =
    let s : l - 3 ≡ n - 3 = omega arith in
    rw (← s) e

pub four_slots : (l s t : ℕ) → l ≡ 4 → t ≡ slots_of (l - 3) → s + t ≤ 341 → s + 5 ≤ 341
unfolding slots_of
four_slots l s t el et le =
    let five : t ≡ 5 = et ∙ rw el in
    omega arith

-- a quarter's slots
pub slots_part : (l t : ℕ) → 4 ≤ l → t ≡ slots_of (l - 3) → t / 4 ≡ slots_of (l - 1 - 3)
slots_part l t le e =
    let s : l - 3 ≡ suc (l - 1 - 3) = omega arith in
    let f : t ≡ 4 * slots_of (l - 1 - 3) + 1 = e ∙ rw s (unfold slots_of in refl) in
    omega arith

pub slots_four : (l t : ℕ) → 4 ≤ l → t ≡ slots_of (l - 3) → t ≡ 4 * (t / 4) + 1
slots_four l t le e =
    let s : l - 3 ≡ suc (l - 1 - 3) = omega arith in
    let f : t ≡ 4 * slots_of (l - 1 - 3) + 1 = e ∙ rw s (unfold slots_of in refl) in
    omega arith

pub times_below : (q k t : ℕ) → q < k → q * t + t ≤ k * t
times_below q k t lt = omega (arith, suc-mul q t, mul-le-mul_right t lt)

-- one of two
pub at_most : (j m : ℕ) → j ≤ 1 → j * m ≤ m
at_most zero m le = omega arith
at_most (suc zero) m le = omega arith
at_most (suc (suc j)) m le = absurd (omega arith)

-- a product that fits
pub part_down : (j h w : ℕ) → j ≤ 1 → h ≤ 2 ^ top_level → w ≤ 2 ^ top_level → j * h * w ≤ 16384
part_down j h w le high wide =
    let small : j * h * w ≤ 2 ^ top_level * w = mul-le-mul_right w (omega (arith, at_most j h le)) in
    omega arith

-- what is noted outside of what was written stays noted
pub noted_kept : (R : List ℕ) (w : ℕ) (K K' : List ℕ) (e l s a : ℕ) → ((i : ℕ) → s ≤ i → i < s + slots_of e → get_or K' i 0 ≡ get_or K i 0)
    → Noted R w K e l s a → Noted R w K' e l s a
unfolding Noted slots_of
noted_kept R w K K' zero l s a same n = same s (omega arith) (omega arith) ∙ n
noted_kept R w K K' (suc e) l s a same n = (
  same s (omega arith) (omega arith) ∙ n.0,
  λ fk q lt.
      noted_kept R w K K' e (l - 1) (s + 1 + q * slots_of e) (part_at w a (2 ^ (l - 1)) q)
      (λ i lo hi. same i (omega arith) (omega (arith, times_below q 4 (slots_of e) lt)))
      (n.1 fk q lt),
)

pub slots_some : (e : ℕ) → 0 < slots_of e
unfolding slots_of
slots_some zero = omega arith
slots_some (suc e) = omega arith

-- a leaf alone in its slot
leaf_note : (R : List ℕ) (w a s k : ℕ) (K : List ℕ) → s < length K → (l : ℕ) → k ≡ colour (tree_of (window R w a) l 0 0) → (k ≡ fork_type → ⊥)
    → (d : ℕ) → Noted R w (set K s k) d l s a
unfolding Noted
leaf_note R w a s k K lt l e z zero = get_or-set_same K s k 0 lt ∙ e
leaf_note R w a s k K lt l e z (suc d) = (get_or-set_same K s k 0 lt ∙ e, λ fk q ql. absurd (z (e ∙ fk)))

pub leaf_noted : (R : List ℕ) (w a l s k : ℕ) (K : List ℕ) → s < length K → k ≡ colour (tree_of (window R w a) l 0 0) → (k ≡ fork_type → ⊥)
    → NotedSize R w a l s K (set K s k) 1
leaf_noted R w a l s k K lt e z = record {
  nodes = leaf_nodes (tree_of (window R w a) l 0 0) (λ q. z (e ∙ q));
  noted = leaf_note R w a s k K lt l e z (l - 3);
  kept = λ i out. get_or-set_other K s i k 0 (λ q. out (omega arith) (omega (arith, slots_some (l - 3))));
  long = length-set K s k;
}

-- a block below which nothing is noted
pub alone_noted : (R : List ℕ) (w a l s r k : ℕ) (K : List ℕ) → l ≤ 3 → s < length K → r ≡ size_of (tree_of (window R w a) l 0 0)
    → k ≡ colour (tree_of (window R w a) l 0 0) → NotedSize R w a l s K (set K s k) r
alone_noted R w a l s r k K low lt er e =
    let d : l - 3 ≡ 0 = omega arith in
    record {
      nodes = er;
      noted = rw d (unfold Noted in get_or-set_same K s k 0 lt ∙ e);
      kept = λ i out. get_or-set_other K s i k 0 (λ q. out (omega arith) (omega (arith, slots_some (l - 3))));
      long = length-set K s k;
    }

pub block_noted : (R : List ℕ) (w a s r : ℕ) (K K' : List ℕ) → s < length K → r ≡ size_of (tree_of (window R w a) 3 0 0)
    → K' ≡ set K s (colour (tree_of (window R w a) 3 0 0)) → NotedSize R w a 3 s K K' r
block_noted R w a s r K K' lt er e = rw e (alone_noted R w a 3 s r _ K (omega arith) lt er refl)

-- the types of like quarters
chosen : (a : ℕ) (u v x : Bool) → a ≡ fork_type → cond u (cond v (cond x a fork_type) fork_type) fork_type ≡ fork_type
chosen a true true true e = e
chosen a true true false e = refl
chosen a true false x e = refl
chosen a false v x e = refl

alike_or : (a : ℕ) (u v x : Bool) → cond u (cond v (cond x a fork_type) fork_type) fork_type ≡ cond (cond u (cond v x false) false) a fork_type
alike_or a true true true = refl
alike_or a true true false = refl
alike_or a true false x = refl
alike_or a false v x = refl

joined_like : (a b c d : ℕ) → joined_of a b c d ≡ cond (like_types a b c d) a fork_type
unfolding joined_of like_types
joined_like a b c d =
    ⊎_elim
    (λ (f : eqb a fork_type ≡ true). rw f (chosen a (eqb a b) (eqb a c) (eqb a d) (eqb-true a fork_type f)))
    (λ (f : eqb a fork_type ≡ false). rw f (alike_or a (eqb a b) (eqb a c) (eqb a d)))
    (by_bool (eqb a fork_type))

pub twice : (l : ℕ) → 0 < l → 2 ^ l ≡ 2 * 2 ^ (l - 1)
twice zero pos = absurd (omega arith)
twice (suc m) pos =
    let e : suc m - 1 ≡ m = omega arith in
    rw e (pow-succ' 2 m)

-- a quarter lies where its block does
module _ (R : List ℕ) (w a l : ℕ) (lies : Lies R w a l) (pos : 0 < l) where
  pub place_few : a ≤ 4 ^ top_level
  place_few =
      let some : 1 * w ≤ 2 ^ l * w = mul-le-mul_right w (pow_pos l) in
      omega (arith, lies.ends, lies.few)

  pub part_lies : (q : ℕ) → q < 4 → Lies R w (part_at w a (2 ^ (l - 1)) q) (l - 1)
  unfolding part_at
  part_lies q lt =
      let h : ℕ = 2 ^ (l - 1) in
      let down : q / 2 * h * w ≤ h * w = mul-le-mul_right w (at_most (q / 2) h (omega arith)) in
      let across : q % 2 * h ≤ h = at_most (q % 2) h (omega arith) in
      let both : 2 ^ l * w ≡ 2 * (h * w) = rw (twice l pos) (mul_assoc 2 h w) in
      record { colours = lies.colours; ends = omega (arith, down, across, both, twice l pos, lies.ends); few = lies.few; wide = lies.wide }

-- its tree is the block's quarter's
pub part_tree : (R : List ℕ) (w a m q x y : ℕ) → q % 2 ≡ x → q / 2 ≡ y → tree_of (window R w (part_at w a (2 ^ m) q)) m 0 0 ≡ tree_of (window R w a) m x y
part_tree R w a m q x y ex ey = window_moved R w a (part_at w a (2 ^ m) q) m x y (unfold part_at in rw (ex, ey))

pub noted_own : (R : List ℕ) (w : ℕ) (K : List ℕ) (e l s a : ℕ) → Noted R w K e l s a → get_or K s 0 ≡ colour (tree_of (window R w a) l 0 0)
unfolding Noted
noted_own R w K zero l s a n = n
noted_own R w K (suc e) l s a n = n.0

-- the nodes of quadrant q
abbrev size_at : List ℕ → ℕ → ℕ → ℕ → ℕ → ℕ
size_at R w a m q = size_of (tree_of (window R w (part_at w a (2 ^ m) q)) m 0 0)

part_size : (R : List ℕ) (w a m q : ℕ) → m ≤ top_level → 6 * size_at R w a m q ≤ max_words
part_size R w a m q top = size_fits m _ top (tree_within (window R w (part_at w a (2 ^ m) q)) m 0 0)

-- no quadrant is noted yet
pub parts_none : (R : List ℕ) (w a l s : ℕ) (K : List ℕ) → Parts R w a l s 0 K K 1
parts_none R w a l s K = record { few = omega arith; count = unfold sum in refl; noted = λ p lt. absurd (omega arith); kept = λ i out. refl; long = refl }

module _ (R : List ℕ) (w a l s : ℕ) (low : 4 ≤ l) (K₀ : List ℕ) where
  deep : l - 3 ≡ suc (l - 1 - 3)
  deep = omega arith

  all_slots : slots_of (l - 3) ≡ 4 * slots_of (l - 1 - 3) + 1
  all_slots = rw deep (unfold slots_of in refl)

  -- one quadrant more
  pub parts_next : (q nodes r : ℕ) (K K' : List ℕ) → Parts R w a l s q K₀ K nodes → q < 4
      → NotedSize R w (part_at w a (2 ^ (l - 1)) q) (l - 1) (s + 1 + q * slots_of (l - 1 - 3)) K K' r → Parts R w a l s (q + 1) K₀ K' (nodes + r)
  parts_next q nodes r K K' ps lt t =
      let o : q + 1 ≡ suc q = omega arith in
      let room = times_below q 4 (slots_of (l - 1 - 3)) lt in
      record {
        few = omega arith;
        count = rw o (unfold sum in omega (arith, ps.count, t.nodes));
        noted = λ p less.
            ⊎_elim
            (λ (same : p ≡ q). rw same t.noted)
            (λ (before : p < q).
            noted_kept R w K K' (l - 1 - 3) (l - 1) (s + 1 + p * slots_of (l - 1 - 3)) (part_at w a (2 ^ (l - 1)) p)
            (λ i lo hi. t.kept i (λ low₁ high. omega (arith, times_below p q (slots_of (l - 1 - 3)) before)))
            (ps.noted p before))
            (eq-or-lt_of_le (le_of_suc-le-suc (rw o at less)));
        kept = λ i out. t.kept i (λ low₁ high. out (omega arith) (omega (arith, room, all_slots))) ∙ ps.kept i out;
        long = t.long ∙ ps.long;
      }

  pub parts_fit : (q nodes r : ℕ) (K K' : List ℕ) → Parts R w a l s q K₀ K nodes → q < 4 → l ≤ top_level
      → NotedSize R w (part_at w a (2 ^ (l - 1)) q) (l - 1) (s + 1 + q * slots_of (l - 1 - 3)) K K' r → nodes + r ≤ 109226
  parts_fit q nodes r K K' ps lt top t =
      omega (arith, ps.count, t.nodes, part_size R w a (l - 1) q (omega arith), sum_most (size_at R w a (l - 1)) 21845 q (λ p less. omega (arith, part_size R w a (l - 1) p (omega arith))))

  -- all four
  module _ (colours : Colours R) (nodes : ℕ) (K : List ℕ) (ps : Parts R w a l s 4 K₀ K nodes) (room : s < length K) where
    above : l ≡ suc (l - 1)
    above = omega arith

    few : (i j : ℕ) → window R w a i j ≤ 1
    few = window_few R w a colours

    four_sizes : nodes ≡ 1 + (size_of (tree_of (window R w a) (l - 1) 0 0) + (size_of (tree_of (window R w a) (l - 1) 1 0) + (size_of (tree_of (window R w a) (l - 1) 0 1) + size_of (tree_of (window R w a) (l - 1) 1 1))))
    four_sizes =
        let a0 = ap size_of (part_tree R w a (l - 1) 0 0 0 refl refl) in
        let a1 = ap size_of (part_tree R w a (l - 1) 1 1 0 refl refl) in
        let a2 = ap size_of (part_tree R w a (l - 1) 2 0 1 refl refl) in
        let a3 = ap size_of (part_tree R w a (l - 1) 3 1 1 refl refl) in
        let is : nodes ≡ 1 + (size_at R w a (l - 1) 3 + (size_at R w a (l - 1) 2 + (size_at R w a (l - 1) 1 + (size_at R w a (l - 1) 0 + 0)))) = ps.count ∙ unfold sum in refl in
        omega arith

    pub parts_kind : (k b c d e : ℕ) → b ≡ get_or K (s + 1) 0 → c ≡ get_or K (s + 1 + slots_of (l - 1 - 3)) 0
        → d ≡ get_or K (s + 1 + 2 * slots_of (l - 1 - 3)) 0 → e ≡ get_or K (s + 1 + 3 * slots_of (l - 1 - 3)) 0
        → k ≡ joined_of b c d e → k ≡ colour (tree_of (window R w a) l 0 0)
    parts_kind k b c d e eb ec ed ee ek =
        let note : (q x y : ℕ) → q < 4 → q % 2 ≡ x → q / 2 ≡ y → (j : ℕ) → j ≡ s + 1 + q * slots_of (l - 1 - 3) → get_or K j 0 ≡ colour (tree_of (window R w a) (l - 1) x y) =
        λ q x y lt ex ey j ej. rw ej (noted_own R w K (l - 1 - 3) (l - 1) _ _ (ps.noted q lt) ∙ ap colour (part_tree R w a (l - 1) q x y ex ey)) in
        ek ∙ joined_like b c d e
        ∙ sym (rw (← above) at (joined_kind (window R w a) few (l - 1) 0 0 b c d e (eb ∙ note 0 0 0 (omega arith) refl refl _ (omega arith)) (ec ∙ note 1 1 0 (omega arith) refl refl _ (omega arith)) (ed ∙ note 2 0 1 (omega arith) refl refl _ (omega arith)) (ee ∙ note 3 1 1 (omega arith) refl refl _ (omega arith))))

    written_kept : (k : ℕ) → Kept K₀ (set K s k) s (slots_of (l - 3))
    written_kept k i out = get_or-set_other K s i k 0 (λ q. out (omega arith) (omega (arith, slots_some (l - 3)))) ∙ ps.kept i out

    -- a fork's quarters stay noted
    pub parts_fork : (k : ℕ) → k ≡ fork_type → colour (tree_of (window R w a) l 0 0) ≡ fork_type → NotedSize R w a l s K₀ (set K s k) nodes
    parts_fork k ek e = record {
      nodes = four_sizes ∙ sym (rw (← above) at (fork_nodes (window R w a) few (l - 1) 0 0 (rw above at e)));
      noted = rw deep (unfold Noted in (
        get_or-set_same K s k 0 room ∙ ek ∙ sym e,
        λ fk q lt. noted_kept R w K (set K s k) (l - 1 - 3) (l - 1) (s + 1 + q * slots_of (l - 1 - 3)) (part_at w a (2 ^ (l - 1)) q) (λ i lo hi. get_or-set_other K s i k 0 (λ z. omega arith)) (ps.noted q lt),
      ));
      kept = written_kept k;
      long = length-set K s k ∙ ps.long;
    }

    -- and a leaf's need none
    pub parts_leaf : (k : ℕ) → k ≡ colour (tree_of (window R w a) l 0 0) → (k ≡ fork_type → ⊥) → NotedSize R w a l s K₀ (set K s k) 1
    parts_leaf k e z = record {
      nodes = leaf_nodes (tree_of (window R w a) l 0 0) (λ q. z (e ∙ q));
      noted = leaf_note R w a s k K room l e z (l - 3);
      kept = written_kept k;
      long = length-set K s k ∙ ps.long;
    }

    -- the quarters of a leaf are leaves, so that they have four nodes
    pub parts_many : (nodes ≡ 5 → ⊥) → colour (tree_of (window R w a) l 0 0) ≡ fork_type
    parts_many z =
        ⊎_elim
        (λ (q : eqb (colour (tree_of (window R w a) l 0 0)) fork_type ≡ true). eqb-true _ fork_type q)
        (λ (q : eqb (colour (tree_of (window R w a) l 0 0)) fork_type ≡ false).
        let t = leaf_by_type (tree_of (window R w a) l 0 0) (eqb-false _ fork_type q) in
        let one : (p x y : ℕ) → p < 4 → 2 * 0 + p % 2 ≡ x → 2 * 0 + p / 2 ≡ y → 1 ≡ size_of (tree_of (window R w a) (l - 1) x y) =
        λ p x y lt ex ey. rw (← ex, ← ey, ← tree_son (window R w a) (l - 1) 0 0 p lt, ← above, t) (unfold son_of size_of in refl) in
        absurd (z (omega (arith, four_sizes, one 0 0 0 (omega arith) refl refl, one 1 1 0 (omega arith) refl refl, one 2 0 1 (omega arith) refl refl, one 3 1 1 (omega arith) refl refl))))
        (by_bool (eqb (colour (tree_of (window R w a) l 0 0)) fork_type))

-- a block of level 4: a leaf, or a fork and its quarters
pub four_kind : (R : List ℕ) (w a s : ℕ) → Colours R → s ≡ eight_rows R w a + eight_rows R w (a + 8) + eight_rows R w (a + 8 * w) + eight_rows R w (a + 8 * w + 8)
    → ((s ≡ 0 → 0 ≡ colour (tree_of (window R w a) 4 0 0)) × (s ≡ 32 * black_row → 1 ≡ colour (tree_of (window R w a) 4 0 0)))
    × ((s ≡ 0 → ⊥) → (s ≡ 32 * black_row → ⊥) → colour (tree_of (window R w a) 4 0 0) ≡ fork_type)
four_kind R w a s colours e =
    let t : Tells (tree_of (window R w a) 4 0 0) (32 * black_row) s = rw e (told_quarters R w a colours) in
    let k = told_kind _ _ _ (window_coloured R w a colours 4 0 0) t in (
      (λ z. rw (t.white z) (unfold colour in refl), λ z. rw (t.black z) (unfold colour in refl)),
      λ y z. sym k ∙ unfold kind_of in rw (ne_eqb s 0 y, ne_eqb s (32 * black_row) z),
    )

-- its quarters, one after the other
four_next : (R : List ℕ) (w a s q b j nodes r : ℕ) (K₀ K K' : List ℕ) → Parts R w a 4 s q K₀ K nodes → q < 4 → j < length K
    → b ≡ part_at w a 8 q → j ≡ s + 1 + q * slots_of 0 → r ≡ size_of (tree_of (window R w b) 3 0 0) → K' ≡ set K j (colour (tree_of (window R w b) 3 0 0))
    → Parts R w a 4 s (q + 1) K₀ K' (nodes + r)
four_next R w a s q b j nodes r K₀ K K' ps lt room eb ej er eK =
    parts_next R w a 4 s (omega arith) K₀ q nodes r K K' ps lt (rw (eb, ej) at (block_noted R w b j r K K' room er eK))

pub four_parts : (R : List ℕ) (w a s i j k l : ℕ) (K K₁ K₂ K₃ K₄ : List ℕ) → length K ≡ 341 → s + 5 ≤ 341
    → i ≡ size_of (tree_of (window R w a) 3 0 0) → K₁ ≡ set K (s + 1) (colour (tree_of (window R w a) 3 0 0))
    → j ≡ size_of (tree_of (window R w (a + 8)) 3 0 0) → K₂ ≡ set K₁ (s + 2) (colour (tree_of (window R w (a + 8)) 3 0 0))
    → k ≡ size_of (tree_of (window R w (a + 8 * w)) 3 0 0) → K₃ ≡ set K₂ (s + 3) (colour (tree_of (window R w (a + 8 * w)) 3 0 0))
    → l ≡ size_of (tree_of (window R w (a + 8 * w + 8)) 3 0 0) → K₄ ≡ set K₃ (s + 4) (colour (tree_of (window R w (a + 8 * w + 8)) 3 0 0))
    → Parts R w a 4 s 4 K K₄ (1 + i + j + k + l)
unfolding slots_of part_at
four_parts R w a s i j k l K K₁ K₂ K₃ K₄ long room ei e₁ ej e₂ ek e₃ el e₄ =
    let n₁ : length K₁ ≡ 341 = ap length e₁ ∙ length-set K _ _ ∙ long in
    let n₂ : length K₂ ≡ 341 = ap length e₂ ∙ length-set K₁ _ _ ∙ n₁ in
    let n₃ : length K₃ ≡ 341 = ap length e₃ ∙ length-set K₂ _ _ ∙ n₂ in
    let p₁ = four_next R w a s 0 a (s + 1) 1 i K K K₁ (parts_none R w a 4 s K) (omega arith) (omega arith) (omega arith) (omega arith) ei e₁ in
    let p₂ = four_next R w a s 1 (a + 8) (s + 2) (1 + i) j K K₁ K₂ p₁ (omega arith) (omega arith) (omega arith) (omega arith) ej e₂ in
    let p₃ = four_next R w a s 2 (a + 8 * w) (s + 3) (1 + i + j) k K K₂ K₃ p₂ (omega arith) (omega arith) (omega arith) (omega arith) ek e₃ in
    four_next R w a s 3 (a + 8 * w + 8) (s + 4) (1 + i + j + k) l K K₃ K₄ p₃ (omega arith) (omega arith) (omega arith) (omega arith) el e₄

-- a call for quadrant q, as the code has it: the quarters' side h, the place p, the slots t of the block
module _ (R : List ℕ) (w a l s q h p t : ℕ) (low : 5 ≤ l) (lt : q < 4) (eh : h ≡ 2 ^ (l - 1)) (ep : p ≡ part_at w a h q) (et : t ≡ slots_of (l - 3)) where
  pub part_called : Lies R w a l → s + t ≤ 341 → (Lies R w p (l - 1)) × (s + 1 + q * (t / 4) + t / 4 ≤ 341)
  part_called lies room = (
    rw (ep, eh) (part_lies R w a l lies (omega arith) q lt),
    omega (arith, times_below q 4 (t / 4) lt, slots_part l t (omega arith) et, slots_four l t (omega arith) et),
  )

  pub part_tallied : (m r : ℕ) (K K' : List ℕ) → l - 1 ≡ m → NotedSize R w p m (s + 1 + q * (t / 4)) K K' r
      → NotedSize R w (part_at w a (2 ^ (l - 1)) q) (l - 1) (s + 1 + q * slots_of (l - 1 - 3)) K K' r
  part_tallied m r K K' em ta =
      let its : NotedSize R w p (l - 1) (s + 1 + q * (t / 4)) K K' r = rw em ta in
      rw (← slots_part l t (omega arith) et, ← eh, ← ep) its

pub parts_all : (R : List ℕ) (w a l s q : ℕ) (K₀ K : List ℕ) (nodes : ℕ) → Parts R w a l s q K₀ K nodes → 4 ≤ q → Parts R w a l s 4 K₀ K nodes
parts_all R w a l s q K₀ K nodes ps le =
    let e : q ≡ 4 = omega (arith, ps.few) in
    rw e at ps

pub parts_joined : (R : List ℕ) (w a l s t : ℕ) (low : 5 ≤ l) (K₀ : List ℕ) (colours : Colours R) (nodes : ℕ) (K : List ℕ) (ps : Parts R w a l s 4 K₀ K nodes) (room : s < length K)
    → t ≡ slots_of (l - 3) → (k : ℕ)
    → k ≡ joined_of (get_or K (s + 1) 0) (get_or K (s + 1 + t / 4) 0) (get_or K (s + 1 + 2 * (t / 4)) 0) (get_or K (s + 1 + 3 * (t / 4)) 0)
    → k ≡ colour (tree_of (window R w a) l 0 0)
parts_joined R w a l s t low K₀ colours nodes K ps room et k e =
    let part = slots_part l t (omega arith) et in
    parts_kind R w a l s (omega arith) K₀ colours nodes K ps room k _ _ _ _ refl (rw part) (rw part) (rw part) e
