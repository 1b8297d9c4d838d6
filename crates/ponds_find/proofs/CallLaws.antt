-- The call, on words and on structs alike: a refusal leaves both slices, an answer fills them, and there is no second
-- outcome.
use Rattle.std.specs.Prelude.{Ok, Err}
use mathlib.Core.Bool.{true, false, true≢false, false≢true}
use mathlib.Core.List.{List}
use mathlib.Core.Logic.{⊎_elim}
use mathlib.Core.Path.{◌≡◌, refl, ap, sym, ◌∙◌}
use Prim.Native.Nat.{ℕ, ◌*◌, ◌≤◌}
use native.Mathlib.Nat.{le_trans, mul-le-mul_left}
use native.Mathlib.Omega.{arith}
use lib.Dec.{eqb}
use lib.ListN.{length}
use borrow.Author.Tests.{eqb-true, eqb-false, ltb-false}
use Rattle.base.specs.Tab.{overlay}
use Rattle.base.proofs.BoolLaws.{by_bool}
use Rattle.std.specs.Result.{IsErr, IsErrAnd}
use Rattle.answer.specs.declared.Refusal.{Refusal}
use Rattle.answer.specs.declared.Refusal.TheVariants.{NoRoom}
use Rattle.answer.specs.Numbers.{Outcome, answers, value_of, room}
use Rattle.answer.proofs.OutcomeLaws.{refusal_refuses, given_back, both_answer, answers_unless}
use Rattle.quad.specs.Numbers.{black, fork_type}
use Rattle.table.specs.Table.{nodes, node_type}
use Rattle.table.specs.Rules.{each_node_of, Accepted}
use Rattle.table.proofs.CheckLaws.{each_node_of_lem}
use Rattle.ponds.specs.declared.Pond.{Pond}
use Rattle.ponds.specs.Entries.{entries}
use Rattle.ponds_entry.specs.Gathered.{Numbers}
use Rattle.ponds.specs.Numbered.{Numbered}
use Rattle.ponds.specs.Calls.{black_leaves, ponds_test, Finds}
use Rattle.ponds_find.specs.Finding.{Counts, Finding}
use Rattle.ponds.proofs.OneNumbering.{one_numbering}
use Rattle.ponds.proofs.FewPonds.{few_ponds}

-- what the register's pass asks of the numbers
numbers_of : (n : ℕ) (T numbers : List ℕ) (count : ℕ) → Accepted n T → Numbered n T numbers count → Numbers n T numbers count
numbers_of n T numbers count acc h = record {
  accepted = acc;
  words = h.each;
  few = λ p lt.
      ⊎_elim
      (λ (e : eqb (node_type T p) black ≡ true). h.few p (record { node = lt; wet = eqb-true (node_type T p) black e }))
      (λ (e : eqb (node_type T p) black ≡ false). omega (arith, h.dry p lt (eqb-false (node_type T p) black e)))
      (by_bool (eqb (node_type T p) black));
  forks = λ p lt f. h.dry p lt (λ e. omega (arith, eqb-true (node_type T p) fork_type f));
}

-- the tests are passed exactly where the sheet is accepted, the numbers are as many as its nodes, and the register has
-- room
pub passed : (n : ℕ) (T : List ℕ) (words need have : ℕ) → answers (ponds_test n T words need have) ≡ true
    → Accepted n T × (words ≡ nodes T) × (need ≤ have)
unfolding ponds_test
passed n T words need have e =
    let h = both_answer (each_node_of n T words) (room need have) e in
    let a = each_node_of_lem n T words h.0 in
    (a.0, a.1, ltb-false _ _ (answers_unless _ (Err (NoRoom need)) refl h.1))

-- the tests and the numbering
module _ (n : ℕ) (T : List ℕ) (wide have : ℕ) (numbers : List ℕ) where
  abbrev tests : Outcome
  tests = ponds_test n T (length numbers) (wide * black_leaves T) have

  pub not_numbered : (e : Refusal) → Err e ≡ tests → (o : Outcome) → IsErr o × IsErrAnd o (λ x. x ≡ e) → Finding n T wide have numbers o numbers
  not_numbered e t o g = record {
    refused = λ bad. (given_back o e g ∙ t, refl);
    answered = λ good. absurd (false≢true (sym (refusal_refuses e) ∙ ap answers t ∙ good));
  }

  module _ (v : ℕ) (t : Ok v ≡ tests) where
    pub passed_call : Accepted n T × (length numbers ≡ nodes T) × (wide * black_leaves T ≤ have)
    passed_call = passed n T (length numbers) (wide * black_leaves T) have (sym (ap answers t))

    pub numbered : (count : ℕ) (numbers' : List ℕ) → Numbered n T numbers' count → Finding n T wide have numbers (Ok count) numbers'
    numbered count numbers' m =
        let p = passed_call in
        record {
          refused = λ bad. absurd (true≢false (ap answers t ∙ bad));
          answered = λ good. (
            count,
            refl,
            record {
              numbered = m;
              filling = numbers_of n T numbers' count p.0 m;
              room = le_trans (mul-le-mul_left wide (few_ponds n T numbers' count m)) p.2;
            },
          );
        }

-- and the register
module _ {A : Type 0} (n : ℕ) (T : List ℕ) (written : List Pond → List A) (wide : ℕ) (numbers : List ℕ) (reg : List A) (numbers' : List ℕ) where
  pub found_none : (e : Refusal) → Finding n T wide (length reg) numbers (Err e) numbers' → (o : Outcome) → IsErr o × IsErrAnd o (λ x. x ≡ e)
      → Finds n T written wide numbers reg o numbers' reg
  found_none e f o g = record {
    refused = λ bad. (given_back o e g ∙ (f.refused bad).0, (f.refused bad).1, refl);
    answered = λ good. absurd (false≢true (sym (refusal_refuses e) ∙ ap answers (f.answered good).1));
  }

  module _ (count : ℕ) (f : Finding n T wide (length reg) numbers (Ok count) numbers') where
    tested : answers (ponds_test n T (length numbers) (wide * black_leaves T) (length reg)) ≡ true
    tested =
        ⊎_elim (λ e. e)
        (λ (bad : answers (ponds_test n T (length numbers) (wide * black_leaves T) (length reg)) ≡ false). absurd (true≢false (ap answers (f.refused bad).0 ∙ bad)))
        (by_bool (answers (ponds_test n T (length numbers) (wide * black_leaves T) (length reg))))

    counts : Counts n T wide (length reg) numbers' count
    counts = rw (ap value_of (f.answered tested).1) (f.answered tested).2

    pub found_ready : Numbers n T numbers' count × (wide * count ≤ length reg)
    found_ready = (counts.filling, counts.room)

    pub found_all : (reg' : List A) → reg' ≡ overlay (written (entries n T numbers' count)) reg → Finds n T written wide numbers reg (Ok count) numbers' reg'
    found_all reg' r = record {
      refused = λ bad. absurd (true≢false (sym tested ∙ bad));
      answered = λ good. (count, refl, record { numbered = counts.numbered; register = r });
    }

-- no second outcome
pub one_finding : {A : Type 0} (n : ℕ) (T : List ℕ) (written : List Pond → List A) (wide : ℕ) (numbers : List ℕ) (reg : List A) (o o' : Outcome)
    (a a' : List ℕ) (b b' : List A) → Finds n T written wide numbers reg o a b → Finds n T written wide numbers reg o' a' b' → (o ≡ o') × (a ≡ a') × (b ≡ b')
one_finding n T written wide numbers reg o o' a a' b b' f g =
    let test = ponds_test n T (length numbers) (wide * black_leaves T) (length reg) in
    ⊎_elim
    (λ (good : answers test ≡ true).
    let x = f.answered good in
    let y = g.answered good in
    let acc = (passed n T (length numbers) (wide * black_leaves T) (length reg) good).0 in
    let same = one_numbering n T acc a a' x.0 y.0 x.2.numbered y.2.numbered in (
      x.1 ∙ ap Ok same.1 ∙ sym y.1,
      same.0,
      x.2.register ∙ ap (λ (m : List ℕ). overlay (written (entries n T m x.0)) reg) same.0
          ∙ ap (λ (c : ℕ). overlay (written (entries n T a' c)) reg) same.1 ∙ sym y.2.register,
    ))
    (λ (bad : answers test ≡ false).
    let x = f.refused bad in
    let y = g.refused bad in
    (x.0 ∙ sym y.0, x.1 ∙ sym y.1, x.2 ∙ sym y.2))
    (by_bool (answers test))
