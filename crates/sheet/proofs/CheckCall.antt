-- What the statement of sheet_check settles: code 0 is given exactly to accepted sheets, and neither a library that
-- refuses everything nor one that accepts everything meets it (demand 2).
use mathlib.Core.List.{List, []}
use mathlib.Core.Path.{◌≡◌, refl, ◌∙◌}
use Prim.Native.Nat.{ℕ, ◌*◌, ◌%◌}
use native.Mathlib.Omega.{arith}
use borrow.Author.Tests.{eq-eqb}
use Rattle.answer.specs.Numbers.{code_of, number_of}
use Rattle.answer.proofs.OutcomeLaws.{code_small}
use Rattle.table.specs.Table.{nodes}
use Rattle.table.specs.Rules.{Accepted, check_of, sizes_of, length_ok, faults_of, fault_from, fault_at, type_ok, father_ok, once_ok, sons_ok, son_ok, word_ok, depth_ok, depth_to, all_of, son_alike, mixed_ok}
use Rattle.table.specs.SheetA.{table_a}
use Rattle.table.proofs.CheckLaws.{accepted_of, check_accepted}
use Rattle.sheet.specs.Calls.{Gives, Checks}

-- code 0 exactly for accepted sheets, and then the value is the node count
pub answered_accepted : (n : ℕ) (T : List ℕ) (r : ℕ) → Checks n T r → r % 256 ≡ 0 → Accepted n T
unfolding Gives
answered_accepted n T r e h =
    accepted_of n T (eq-eqb (code_of (check_of n T)) 0 (omega (arith, e, h, code_small (check_of n T))))

pub accepted_answered : (n : ℕ) (T : List ℕ) (r : ℕ) → Checks n T r → Accepted n T → r ≡ 256 * nodes T
unfolding Gives
accepted_answered n T r e acc = e ∙ rw (check_accepted n T acc) (omega arith)

-- sheet A is answered, an empty table is refused
on_sheet-A : number_of (check_of 2 table_a) ≡ 256 * 9
unfolding check_of sizes_of length_ok faults_of fault_from fault_at type_ok father_ok once_ok sons_ok son_ok word_ok depth_ok depth_to all_of son_alike mixed_ok
on_sheet-A = refl

on_nothing : number_of (check_of 0 []) ≡ 2
unfolding check_of sizes_of length_ok
on_nothing = refl

module _ (library : ℕ → List ℕ → ℕ) (meets : (n : ℕ) (T : List ℕ) → Checks n T (library n T)) where
  pub not_all_refused : ((n : ℕ) (T : List ℕ) → library n T % 256 ≡ 0 → ⊥) → ⊥
  unfolding Gives
  not_all_refused refuses = refuses 2 table_a (rw (meets 2 table_a, on_sheet-A) (omega arith))

  pub not_all_accepted : ((n : ℕ) (T : List ℕ) → library n T % 256 ≡ 0) → ⊥
  unfolding Gives
  not_all_accepted accepts = omega (arith, meets 0 [], on_nothing, accepts 0 [])
