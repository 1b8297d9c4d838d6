-- The two lines as one list, the columns' words and then the rows'.
use mathlib.Core.List.{List, [], ◌∷◌, ◌++◌}
use mathlib.Core.Path.{◌≡◌, refl, ap, sym, ◌∙◌}
use mathlib.Core.Bool.{true}
use Prim.Native.Nat.{ℕ, ◌+◌, ◌-◌, ◌*◌, ◌≤◌, ◌<◌}
use native.Mathlib.Omega.{arith}
use lib.ListN.{length, get_or, set, length-set, drop}
use lib.Dec.{eqb}
use borrow.Author.Tests.{eqb-true}
use Rattle.std.specs.List.{sum_by, slice_range}
use Rattle.std.proofs.lemmas.List.{set-append_left, set-append_right, get_or_append_left, get_or-append-add, get_or-take, get_or-drop}
use Rattle.std.proofs.lemmas.List.Sums.{sum_by-cons, get_or-le-sum_by}
use Rattle.std.proofs.lemmas.List.{length-take-le, length-drop, length-append}
use Rattle.base.proofs.CaseLaws.{cond_case}
use Rattle.ponds_sets.specs.Lines.{across}
use Rattle.ponds_sets.specs.Touch.{one_if_other}
use Rattle.ponds_sets.specs.Walk.{Quiet, LinesFilled, written}
use Rattle.ponds_sets.proofs.ShoreLaws.{fill_more, no_other}

pub written_both : (C R : List ℕ) (x y b c d : ℕ) → length C ≡ across → x + 2 ≤ across → set (set C x c) (x + 1) d ++ set (set R y b) (y + 1) d ≡ written (C ++ R) x y b c d
written_both C R x y b c d long lx =
    let A = set C x c in
    let B = set A (x + 1) d in
    let la : length A ≡ across = length-set C x c ∙ long in
    let lb : length B ≡ across = length-set A (x + 1) d ∙ la in
    let ey : across + y - across ≡ y = omega arith in
    let ez : across + y + 1 - across ≡ y + 1 = omega arith in
    let e₁ : set (C ++ R) x c ≡ A ++ R = set-append_left C R x c (omega (arith, lx, long)) in
    let e₂ : set (A ++ R) (x + 1) d ≡ B ++ R = set-append_left A R (x + 1) d (omega (arith, lx, la)) in
    let e₃ : set (B ++ R) (across + y) b ≡ B ++ set R y b = rw ey at (set-append_right B R across (across + y) b lb (omega arith)) in
    let e₄ : set (B ++ set R y b) (across + y + 1) d ≡ B ++ set (set R y b) (y + 1) d = rw ez at (set-append_right B (set R y b) across (across + y + 1) d lb (omega arith)) in
    sym (ap (λ (l : List ℕ). set (set (set l (x + 1) d) (across + y) b) (across + y + 1) d) e₁ ∙ ap (λ (l : List ℕ). set (set l (across + y) b) (across + y + 1) d) e₂ ∙ ap (λ (l : List ℕ). set l (across + y + 1) d) e₃ ∙ e₄)

-- one column and one row more
pub filled_both : (C R L : List ℕ) (label x y i : ℕ) → length C ≡ across → length L ≡ 2 * across → x + i < across → y + i < across
    → LinesFilled L label x y i (C ++ R) → LinesFilled L label x y (i + 1) (set C (x + i) label ++ set R (y + i) label)
filled_both C R L label x y i lc ll lx ly f =
    let D = set C (x + i) label in
    let ld : length D ≡ across = length-set C (x + i) label ∙ lc in
    let ey : across + y + i - across ≡ y + i = omega arith in
    let e₁ : set (C ++ R) (x + i) label ≡ D ++ R = set-append_left C R (x + i) label (omega (arith, lx, lc)) in
    let e₂ : set (D ++ R) (across + y + i) label ≡ D ++ set R (y + i) label = rw ey at (set-append_right D R across (across + y + i) label ld (omega arith)) in
    rw (e₁, e₂) at (fill_more f ll lx ly)

pub both_long : (C R L : List ℕ) → length C ≡ across → length R ≡ across → C ++ R ≡ L → length L ≡ 2 * across
both_long C R L lc lr e = rw (← e) (length-append C R ∙ omega (arith, lc, lr))

-- as many words of another label as there are words, or fewer
pub other_few : (v label : ℕ) → one_if_other v label ≤ 1
unfolding one_if_other
other_few v label =
    cond_case (λ (k : ℕ). k ≤ 1) (eqb v 0) 0 _ (λ e. omega arith) (λ e. cond_case (λ (k : ℕ). k ≤ 1) (eqb v label) 0 1 (λ f. omega arith) (λ f. omega arith))

pub others_few : (label : ℕ) (L : List ℕ) → sum_by (λ v. one_if_other v label) L ≤ length L
others_few label [] = omega arith
others_few label (v ∷ L) = rw (sum_by-cons (λ (v : ℕ). one_if_other v label) v L) (omega (arith, other_few v label, others_few label L))

pub part_long : (C : List ℕ) (x side : ℕ) → x + side ≤ length C → length (slice_range C x (x + side)) ≡ side
part_long C x side room =
    let e : x + side - x ≡ side = omega arith in
    rw e (length-take-le side (drop x C) (omega (arith, length-drop x C, room)))

pub part_few : (label : ℕ) (C : List ℕ) (x side r : ℕ) → length C ≡ across → x + side ≤ across → r ≡ sum_by (λ v. one_if_other v label) (slice_range C x (x + side)) → r ≤ across
part_few label C x side r long room e = omega (arith, e, others_few label (slice_range C x (x + side)), part_long C x side (omega (arith, long, room)), room)

-- none of them in a part of C, whose words are those of L from a place on
pub quiet_part : (L C : List ℕ) (label from x side : ℕ) → x + side ≤ length C → ((i : ℕ) → x + i < length C → get_or L (from + i) 0 ≡ get_or C (x + i) 0)
    → sum_by (λ v. one_if_other v label) (slice_range C x (x + side)) ≡ 0 → Quiet L label from side 0
quiet_part L C label from x side room there none = record {
  few = omega arith;
  same = λ z i l some.
      let P = slice_range C x (x + side) in
      let e : x + side - x ≡ side = omega arith in
      let here : get_or P i 0 ≡ get_or L (from + i) 0 = rw e (get_or-take side (drop x C) i 0 l ∙ get_or-drop x C i 0 ∙ sym (there i (omega (arith, l, room)))) in
      let few = get_or-le-sum_by (λ (v : ℕ). one_if_other v label) P i 0 (omega (arith, l, part_long C x side room)) in
      no_other (get_or L (from + i) 0) label (one_if_other (get_or L (from + i) 0) label) refl (omega (arith, rw here at few, none)) some;
}

pub both_quiet : (C R : List ℕ) (label x y side a b : ℕ) → length C ≡ across → length R ≡ across → x + side ≤ across → y + side ≤ across
    → a ≡ sum_by (λ v. one_if_other v label) (slice_range C x (x + side)) → b ≡ sum_by (λ v. one_if_other v label) (slice_range R y (y + side))
    → eqb (a + b) 0 ≡ true → Quiet (C ++ R) label x side 0 × Quiet (C ++ R) label (across + y) side 0
both_quiet C R label x y side a b lc lr lx ly ea eb t =
    let none = eqb-true (a + b) 0 t in (
      quiet_part (C ++ R) C label x x side (omega (arith, lc, lx)) (λ i l. get_or_append_left C R 0 (x + i) l) (omega (arith, ea, none)),
      quiet_part (C ++ R) R label (across + y) y side (omega (arith, lr, ly))
          (λ i l. let e : across + y + i ≡ length C + (y + i) = omega (arith, lc) in rw e (get_or-append-add C R (y + i) 0))
          (omega (arith, eb, none)),
    )
