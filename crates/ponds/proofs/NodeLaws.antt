-- Cases of a node's number.
use mathlib.Core.Logic.{⊎_elim}
use mathlib.Core.Path.{◌≡◌}
use Prim.Native.Nat.{ℕ, ◌+◌, ◌<◌}
use native.Mathlib.Nat.{eq-or-lt_of_le, le_of_suc-le-suc}
use native.Mathlib.Numerals.{add-one}
use lib.Dec.{eqb}
use borrow.Author.Tests.{eqb-true, eqb-false}
use Rattle.base.proofs.BoolLaws.{by_bool}

-- two nodes are one, or not
pub same_or_not : {A : Type 0} (i j : ℕ) → (i ≡ j → A) → ((i ≡ j → ⊥) → A) → A
same_or_not i j f g = ⊎_elim (λ e. f (eqb-true i j e)) (λ e. g (eqb-false i j e)) (by_bool (eqb i j))

-- one of the nodes up to k is k, or before it
pub last_or_before : {A : Type 0} (i k : ℕ) → i < k + 1 → (i ≡ k → A) → (i < k → A) → A
last_or_before i k l f g = ⊎_elim f g (eq-or-lt_of_le (le_of_suc-le-suc (rw (add-one k) at l)))
