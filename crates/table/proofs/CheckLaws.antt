-- The check answers exactly the accepted sheets, with their node count; what it refuses otherwise.
use Rattle.std.specs.Prelude.{Ok, Err}
use mathlib.Core.Bool.{Bool, true, false, not, ◌&&◌, false≢true}
use mathlib.Core.List.{List}
use mathlib.Core.Logic.{⊎_elim}
use mathlib.Core.Path.{◌≡◌, refl, ap, sym, ◌∙◌}
use Prim.Native.Nat.{ℕ, zero, suc, ◌+◌, ◌*◌, ◌≤◌, ◌<◌}
use native.Mathlib.Nat.{add-zero, zero-add, eq-zero-or-pos, eq-or-lt_of_le}
use native.Mathlib.Omega.{arith}
use lib.Dec.{leb, ltb, eqb}
use lib.ListN.{length}
use borrow.Author.Tests.{eq-eqb, ne_eqb, eqb-true, eqb-false, ltb-false, leb-true, leb-false, le-ltb, le-leb, lt-leb, not-true}
use Rattle.base.proofs.BoolLaws.{and_left, and_right, on}
use Rattle.answer.specs.declared.Refusal.TheVariants.{BadLevel, WrongLength, NoNode}
use Rattle.answer.proofs.OutcomeLaws.{refusal_refuses, then_ok, both_answer, answers_unless}
use Rattle.answer.specs.Numbers.{Outcome, answers, and_then, unless}
use Rattle.quad.specs.Numbers.{top_level, max_words}
use Rattle.table.specs.Table.{nodes}
use Rattle.table.proofs.RuleLaws.{from_none}
use Rattle.table.specs.Rules.{fault_at, fault_named, faulty, fault_from, faults_of, length_ok, sizes_of, check_of, each_node_of, asked_of, Sized, Accepted, Asked}

module _ (n : ℕ) (T : List ℕ) where
  sized_length : length_ok T ≡ true → (0 < nodes T) × (length T ≤ max_words) × (length T ≡ 6 * nodes T)
  unfolding length_ok
  sized_length e =
      let x = not (eqb (length T) 0) in
      let y = eqb (length T) (6 * nodes T) in
      let z = leb (length T) max_words in
      let yz = and_right x (y && z) e in
      let w : length T ≡ 6 * nodes T = eqb-true _ _ (and_left y z yz) in
      let some : length T ≡ 0 → ⊥ = eqb-false _ _ (not-true _ (and_left x (y && z) e)) in
      let pos : 0 < nodes T = ⊎_elim (λ (q : nodes T ≡ 0). absurd (some (omega arith))) (λ l. l) (eq-zero-or-pos (nodes T)) in
      (pos, leb-true _ _ (and_right y z yz), w)

  -- the tests for 1 and 2 pass exactly where level and length are good
  pub sized_of : answers (sizes_of n T) ≡ true → Sized n T
  unfolding sizes_of
  sized_of e =
      let h = both_answer (unless (ltb top_level n) (Err (BadLevel 0))) (unless (not (length_ok T)) (Err (WrongLength 0))) e in
      let l = answers_unless (ltb top_level n) (Err (BadLevel 0)) refl h.0 in
      let k = answers_unless (not (length_ok T)) (Err (WrongLength 0)) refl h.1 in
      let s = sized_length (on (length_ok T) (length_ok T) refl k) in
      record { level = ltb-false _ _ l; some = s.0; few = s.1; whole = s.2 }

  pub sized_ok : (v : ℕ) → Ok v ≡ sizes_of n T → Sized n T
  sized_ok v e = sized_of (ap answers (sym e))

  -- the same of any outcome and its test, where it is not refused
  pub sized_call : (s : Outcome) (u : Bool) → s ≡ sizes_of n T → u ≡ answers s → not u ≡ false → Sized n T
  sized_call s u e a h = sized_of (ap answers (sym e) ∙ on u (answers s) a h)

  pub sizes_good : Sized n T → sizes_of n T ≡ Ok 0
  unfolding sizes_of length_ok
  sizes_good z =
      let some = z.some in
      rw (
        sizes_of,
        le-ltb top_level n z.level,
        length_ok,
        ne_eqb (length T) 0 (λ q. omega (arith, z.whole)),
        eq-eqb (length T) (6 * nodes T) z.whole,
        le-leb (length T) max_words z.few,
      )

-- a fault is no answer
faulty_refuses : (c p : ℕ) → answers (faulty c p) ≡ false
faulty_refuses c p = refusal_refuses (fault_named c p)

module _ (n : ℕ) (T : List ℕ) where
  from_here : (k p : ℕ) → fault_at n T p ≡ 0 → fault_from n T (suc k) p ≡ fault_from n T k (p + 1)
  unfolding fault_from
  from_here k p e = rw (fault_from, e)

  from_stop : (k p : ℕ) → (fault_at n T p ≡ 0 → ⊥) → fault_from n T (suc k) p ≡ faulty (fault_at n T p) p
  unfolding fault_from
  from_stop k p h = rw (fault_from, ne_eqb (fault_at n T p) 0 h)

  -- the first fault decides: the nodes before it have none
  from_first : (k p j : ℕ) → j < k → ((i : ℕ) → p ≤ i → i < p + j → fault_at n T i ≡ 0) → (fault_at n T (p + j) ≡ 0 → ⊥)
      → fault_from n T k p ≡ faulty (fault_at n T (p + j)) (p + j)
  from_first zero p j lt h f = absurd (omega arith)
  from_first (suc k) p zero lt h f =
      let e : p + 0 ≡ p = add-zero p in
      rw e (from_stop k p (rw e at f))
  from_first (suc k) p (suc j) lt h f =
      let e : p + suc j ≡ p + 1 + j = omega arith in
      from_here k p (h p (omega arith) (omega arith))
      ∙ rw e (from_first k (p + 1) j (omega arith) (λ i le l. h i (omega arith) (omega arith)) (rw e at f))

  pub first_fault : (p : ℕ) → p < nodes T → ((i : ℕ) → i < p → fault_at n T i ≡ 0) → (fault_at n T p ≡ 0 → ⊥) → faults_of n T ≡ faulty (fault_at n T p) p
  unfolding faults_of
  first_fault p lt h f =
      let e : 0 + p ≡ p = zero-add p in
      rw e at (from_first (nodes T) 0 p lt (λ i le l. h i (omega arith)) (rw (sym e) at f))

  -- no fault at all
  pub from_sound_all : (k p : ℕ) → ((i : ℕ) → p ≤ i → i < p + k → fault_at n T i ≡ 0) → fault_from n T k p ≡ Ok (p + k)
  from_sound_all zero p h = from_none n T 0 p refl ∙ ap Ok (sym (add-zero p))
  from_sound_all (suc k) p h =
      let e : p + suc k ≡ p + 1 + k = omega arith in
      from_here k p (h p (omega arith) (omega arith)) ∙ rw e (from_sound_all k (p + 1) (λ i le l. h i (omega arith) (omega arith)))

  from_answers : (k p : ℕ) → answers (fault_from n T k p) ≡ true → (i : ℕ) → p ≤ i → i < p + k → fault_at n T i ≡ 0
  from_answers zero p e i le lt = absurd (omega arith)
  from_answers (suc k) p e i le lt =
      ⊎_elim
      (λ (z : fault_at n T p ≡ 0).
      ⊎_elim (λ (q : p ≡ i). rw (← q) z)
      (λ (l : p < i). from_answers k (p + 1) (rw (from_here k p z) at e) i (omega arith) (omega arith))
      (eq-or-lt_of_le le))
      (λ (z : 0 < fault_at n T p).
      absurd (false≢true (sym (faulty_refuses (fault_at n T p) p) ∙ rw (from_stop k p (λ q. omega arith)) at e)))
      (eq-zero-or-pos (fault_at n T p))

  -- the check answers exactly the accepted sheets, and with the node count
  pub accepted_of : answers (check_of n T) ≡ true → Accepted n T
  unfolding check_of faults_of
  accepted_of e =
      let h = both_answer (sizes_of n T) (fault_from n T (nodes T) 0) e in
      record { sized = sized_of n T h.0; faultless = λ p lt. from_answers (nodes T) 0 h.1 p (omega arith) (omega arith) }

  pub check_accepted : Accepted n T → check_of n T ≡ Ok (nodes T)
  unfolding check_of faults_of
  check_accepted acc =
      rw (check_of, sizes_good n T acc.sized)
      (from_sound_all (nodes T) 0 (λ i le l. acc.faultless i (omega arith)) ∙ ap Ok (zero-add (nodes T)))

  -- what a call of the check found
  pub accepted_ok : (v : ℕ) → Ok v ≡ check_of n T → Accepted n T
  accepted_ok v e = accepted_of (ap answers (sym e))

  pub accepted_call : (s : Outcome) (u : Bool) → s ≡ check_of n T → u ≡ answers s → not u ≡ false → Accepted n T
  accepted_call s u e a h = accepted_of (ap answers (sym e) ∙ on u (answers s) a h)

  -- a call that is lent one word for each node goes on exactly where the sheet is accepted and the words are as many
  pub each_node_of_lem : (words : ℕ) → answers (each_node_of n T words) ≡ true → Accepted n T × (words ≡ nodes T)
  unfolding each_node_of check_of
  each_node_of_lem words e =
      let bad = not (eqb words (nodes T)) in
      let h = both_answer (sizes_of n T) (and_then (unless bad (Err (WrongLength 1))) (faults_of n T)) e in
      let k = both_answer (unless bad (Err (WrongLength 1))) (faults_of n T) h.1 in
      let w : not (eqb words (nodes T)) ≡ false = answers_unless bad (Err (WrongLength 1)) refl k.0 in
      (accepted_of (rw (check_of, h.0) k.1), eqb-true words (nodes T) (on (eqb words (nodes T)) (eqb words (nodes T)) refl w))

  pub each_node_ok : (words v : ℕ) → Ok v ≡ each_node_of n T words → Accepted n T × (words ≡ nodes T)
  each_node_ok words v e = each_node_of_lem words (ap answers (sym e))

  -- the returns of the tests themselves
  module _ (words count v : ℕ) (e : Ok v ≡ sizes_of n T) (c : count ≡ nodes T) where
    pub each_node_words : (words ≡ count → ⊥) → Err (WrongLength 1) ≡ each_node_of n T words
    unfolding each_node_of
    each_node_words z = then_ok (sizes_of n T) _ _ v e (rw (ne_eqb words (nodes T) (λ q. z (q ∙ sym c))))

    pub each_node_faults : (r : Outcome) → words ≡ count → r ≡ faults_of n T → r ≡ each_node_of n T words
    unfolding each_node_of
    each_node_faults r z q = then_ok (sizes_of n T) _ _ v e (rw (eq-eqb words (nodes T) (z ∙ c)) q)

  -- a question about node p goes on exactly where p is a node of an accepted sheet
  pub asked_of_lem : (p : ℕ) → answers (asked_of n T p) ≡ true → Asked n T p
  unfolding asked_of
  asked_of_lem p e =
      let h = both_answer (check_of n T) (unless (leb (nodes T) p) (Err (NoNode p))) e in
      record { accepted = accepted_of h.0; node = leb-false _ _ (answers_unless (leb (nodes T) p) (Err (NoNode p)) refl h.1) }

  pub asked_good : (p : ℕ) → Asked n T p → asked_of n T p ≡ Ok 0
  unfolding asked_of
  asked_good p a = rw (asked_of, check_accepted a.accepted, lt-leb (nodes T) p a.node)

  pub asked_ok : (p v : ℕ) → Ok v ≡ asked_of n T p → Asked n T p
  asked_ok p v e = asked_of_lem p (ap answers (sym e))

  pub asked_call : (p : ℕ) (s : Outcome) (u : Bool) → s ≡ asked_of n T p → u ≡ answers s → not u ≡ false → Asked n T p
  asked_call p s u e a h = asked_of_lem p (ap answers (sym e) ∙ on u (answers s) a h)

  -- the call's own returns
  module _ (p count v : ℕ) (e : Ok v ≡ check_of n T) (c : count ≡ nodes T) where
    pub asked_none : count ≤ p → Err (NoNode p) ≡ asked_of n T p
    unfolding asked_of
    asked_none l = then_ok (check_of n T) _ _ v e (rw (le-leb (nodes T) p (rw c at l)))

    pub asked_node : p < count → Ok 0 ≡ asked_of n T p
    unfolding asked_of
    asked_node l = then_ok (check_of n T) _ _ v e (rw (lt-leb (nodes T) p (rw c at l)))
