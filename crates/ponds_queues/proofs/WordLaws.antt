-- The linear passes: following the words to their ends and writing the numbers change one entry at a time, and each
-- says of every other that it stays.
use mathlib.Core.List.{List}
use mathlib.Core.Logic.{◌⊎◌, inl, inr, ⊎_elim}
use mathlib.Core.Path.{◌≡◌, refl, ap, ◌∙◌}
use Prim.Native.Nat.{ℕ, zero, suc, ◌+◌, ◌-◌, ◌^◌, ◌≤◌, ◌<◌}
use native.Mathlib.Omega.{arith}
use lib.Dec.{eqb}
use lib.ListN.{length, set, length-set}
use lib.Seq.{get_or-set_same, get_or-set_other}
use borrow.Author.Tests.{eqb-true, eqb-false, lt-ltb, le-ltb}
use Rattle.base.proofs.BoolLaws.{by_bool, lt_or_ge}
use Rattle.quad.specs.Numbers.{top_level}
use Rattle.ponds.specs.Words.{word_of}
use Rattle.ponds_sets.specs.Sets.{leading}
use Rattle.ponds_queues.specs.Words.{Ends, leads_to, steps_of, Traced, next_of, Settled}

pub same_or : (p q : ℕ) → (p ≡ q) ⊎ (p ≡ q → ⊥)
same_or p q = ⊎_elim (λ e. inl (eqb-true p q e)) (λ e. inr (eqb-false p q e)) (by_bool (eqb p q))

module _ (W : List ℕ) (end far : ℕ → ℕ) (h : Ends W end far) where
  -- a word leads to where its node leads
  pub reach_word : (p : ℕ) → p < length W → leads_to end (word_of W p) ≡ end p
  unfolding leads_to
  reach_word p lt =
      ⊎_elim
      (λ (l : word_of W p < leading). rw (lt-ltb (word_of W p) leading l) (h.same p lt l))
      (λ (g : leading ≤ word_of W p). rw (le-ltb (word_of W p) leading g) (h.top p lt g))
      (lt_or_ge (word_of W p) leading)

  pub reach_on : (w : ℕ) → w < length W → w < leading → leads_to end (word_of W w) ≡ leads_to end w
  unfolding leads_to
  reach_on w lt l = reach_word w lt ∙ rw (lt-ltb w leading l)

  steps_same : (k w : ℕ) → (w < leading → w < length W) → (w < leading → far w < k) → steps_of W (suc k) w ≡ steps_of W k w
  unfolding steps_of
  steps_same zero w lw f =
      ⊎_elim
      (λ (l : w < leading). absurd (omega (arith, f l)))
      (λ (g : leading ≤ w). rw (le-ltb w leading g))
      (lt_or_ge w leading)
  steps_same (suc k) w lw f =
      ⊎_elim
      (λ (l : w < leading).
      let ih = steps_same k (word_of W w) (h.low w (lw l)) (λ m. omega (arith, f l, h.near w (lw l) m)) in
      rw (lt-ltb w leading l) (ap suc ih))
      (λ (g : leading ≤ w). rw (le-ltb w leading g))
      (lt_or_ge w leading)

  steps_less : (k w : ℕ) → w < length W → w < leading → far w ≤ k → steps_of W (suc k) (word_of W w) < steps_of W (suc k) w
  steps_less k w lt l f =
      let e = steps_same k (word_of W w) (h.low w lt) (λ m. omega (arith, h.near w lt m)) in
      let s : steps_of W (suc k) w ≡ suc (steps_of W k (word_of W w)) = unfold steps_of in rw (lt-ltb w leading l) in
      omega (arith, e, s)

  pub steps_fall : (w : ℕ) → w < length W → w < leading → steps_of W (suc (4 ^ top_level)) (word_of W w) < steps_of W (suc (4 ^ top_level)) w
  steps_fall w lt l = steps_less (4 ^ top_level) w lt l (h.soon w lt)

  -- a word that is where it leads to
  pub ends_set : (p : ℕ) → p < length W → Ends (set W p (end p)) end far
  ends_set p lp =
      let size : length (set W p (end p)) ≡ length W = length-set W p (end p) in
      let here : (q : ℕ) → q ≡ p → word_of (set W p (end p)) q ≡ end q = λ q e. rw e (get_or-set_same W p (end p) 0 lp) in
      let there : (q : ℕ) → (q ≡ p → ⊥) → word_of (set W p (end p)) q ≡ word_of W q = λ q n. get_or-set_other W p q (end p) 0 n in
      let away : (q : ℕ) → q < length W → word_of (set W p (end p)) q < leading → q ≡ p → ⊥ = λ q lq l e. omega (arith, here q e, h.high q lq) in
      let old : (q : ℕ) → q < length (set W p (end p)) → q < length W = λ q l. omega (arith, size) in
      record {
        few = omega (arith, size, h.few);
        top = λ q l g.
            ⊎_elim
            (here q)
            (λ (n : q ≡ p → ⊥). there q n ∙ h.top q (old q l) (omega (arith, there q n)))
            (same_or q p);
        low = λ q l m.
            let e = there q (away q (old q l) m) in
            omega (arith, size, e, h.low q (old q l) (omega (arith, e)));
        same = λ q l m.
            let e = there q (away q (old q l) m) in
            rw e (h.same q (old q l) (omega (arith, e)));
        near = λ q l m.
            let e = there q (away q (old q l) m) in
            rw e (h.near q (old q l) (omega (arith, e)));
        high = λ q l. h.high q (old q l);
        soon = λ q l. h.soon q (old q l);
      }

pub reach_top : (end : ℕ → ℕ) (w : ℕ) → leading ≤ w → w ≡ leads_to end w
unfolding leads_to
reach_top end w g = rw (le-ltb w leading g)

-- with the words before p settled
pub record Settling (before W : List ℕ) (p : ℕ) : Type 0 where
  pub long : length W ≡ length before
  pub still : (end far : ℕ → ℕ) → Ends before end far → Ends W end far
  pub done : (end far : ℕ → ℕ) → Ends before end far → (q : ℕ) → q < p → q < length before → word_of W q ≡ end q

pub settling_none : (W : List ℕ) → Settling W W 0
settling_none W = record { long = refl; still = λ end far h. h; done = λ end far h q l. absurd (omega arith) }

-- the node looked at first is there, and leads where p does
pub next_there : (W : List ℕ) (end far : ℕ → ℕ) → Ends W end far → (p j : ℕ) → p < length W → j ≡ next_of (word_of W p) p → (j < length W) × (end j ≡ end p)
unfolding next_of
next_there W end far h p j lt e =
    ⊎_elim
    (λ (l : word_of W p < leading).
    let is : j ≡ word_of W p = e ∙ rw (lt-ltb (word_of W p) leading l) in
    rw is (h.low p lt l, h.same p lt l))
    (λ (g : leading ≤ word_of W p).
    let is : j ≡ p = e ∙ rw (le-ltb (word_of W p) leading g) in
    rw is (lt, refl))
    (lt_or_ge (word_of W p) leading)

-- and so does the one after it
pub two_there : (W : List ℕ) (end far : ℕ → ℕ) → Ends W end far → (p j k : ℕ) → p < length W → j ≡ next_of (word_of W p) p → k ≡ next_of (word_of W j) j
    → (k < length W) × (end k ≡ end p)
two_there W end far h p j k lt e f =
    let a = next_there W end far h p j lt e in
    let b = next_there W end far h j k a.0 f in
    (b.0, b.1 ∙ a.1)

pub settling_more : {B W : List ℕ} {p j k v : ℕ} → p < length B → j ≡ next_of (word_of W p) p → k ≡ next_of (word_of W j) j → Traced W (word_of W k) v
    → Settling B W p → Settling B (set W p v) (p + 1)
settling_more {B} {W} {p} {j} {k} {v} lt e f t s =
    let is : (end far : ℕ → ℕ) → Ends B end far → v ≡ end p =
    λ end far h.
    let now = s.still end far h in
    let n = two_there W end far now p j k (omega (arith, s.long)) e f in
    t end far now ∙ reach_word W end far now k n.0 ∙ n.1 in
    record {
      long = length-set W p v ∙ s.long;
      still = λ end far h. rw (is end far h) (ends_set W end far (s.still end far h) p (omega (arith, s.long)));
      done = λ end far h q l lq.
          ⊎_elim
          (λ (z : q ≡ p). rw z (get_or-set_same W p v 0 (omega (arith, s.long)) ∙ is end far h))
          (λ (z : q ≡ p → ⊥). get_or-set_other W p q v 0 z ∙ s.done end far h q (omega arith) lq)
          (same_or q p);
    }

pub settling_all : {B W : List ℕ} {p : ℕ} → length B ≤ p → Settling B W p → Settled B W
settling_all le s = record { long = s.long; all = λ end far h q l. s.done end far h q (omega arith) l }

-- with the mark taken off the words before p
pub record Writing (before W : List ℕ) (p : ℕ) : Type 0 where
  pub long : length W ≡ length before
  pub done : (q : ℕ) → q < p → q < length before → word_of W q ≡ word_of before q - leading
  pub rest : (q : ℕ) → p ≤ q → word_of W q ≡ word_of before q
