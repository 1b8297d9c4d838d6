-- A choice by a test, where the test is known from a fact. `cases` closes a function's return against a definition by
-- cases.
use mathlib.Core.Path.{◌≡◌, refl, sym, ◌∙◌}
use mathlib.Core.Bool.{Bool, true, false, not, cond, ◌&&◌, false≢true}
use Prim.Native.Nat.{ℕ, ◌≤◌, ◌<◌}
use lib.Dec.{ltb, leb, eqb}
use Rattle.base.proofs.BoolLaws.{on, off}
use borrow.Author.Tests.{lt-ltb, le-ltb, le-leb, lt-leb, eq-eqb, ne_eqb}

module _ {A : Type 0} where
  pub at_true : (t : Bool) (r x y : A) → t ≡ true → r ≡ x → r ≡ cond t x y
  at_true t r x y e f = rw e f

  pub at_false : (t : Bool) (r x y : A) → t ≡ false → r ≡ y → r ≡ cond t x y
  at_false t r x y e f = rw e f

  pub at_lt : (a b : ℕ) (r x y : A) → a < b → r ≡ x → r ≡ cond (ltb a b) x y
  at_lt a b r x y h f = rw (lt-ltb a b h) f

  pub at_ge : (a b : ℕ) (r x y : A) → b ≤ a → r ≡ y → r ≡ cond (ltb a b) x y
  at_ge a b r x y h f = rw (le-ltb a b h) f

  pub at_le : (a b : ℕ) (r x y : A) → a ≤ b → r ≡ x → r ≡ cond (leb a b) x y
  at_le a b r x y h f = rw (le-leb a b h) f

  pub at_gt : (a b : ℕ) (r x y : A) → b < a → r ≡ y → r ≡ cond (leb a b) x y
  at_gt a b r x y h f = rw (lt-leb a b h) f

  pub at_eq : (a b : ℕ) (r x y : A) → a ≡ b → r ≡ x → r ≡ cond (eqb a b) x y
  at_eq a b r x y h f = rw (eq-eqb a b h) f

  pub at_ne : (a b : ℕ) (r x y : A) → (a ≡ b → ⊥) → r ≡ y → r ≡ cond (eqb a b) x y
  at_ne a b r x y h f = rw (ne_eqb a b h) f

  -- the test is what a call gave
  pub at_call_true : (t u : Bool) (r x y : A) → u ≡ t → u ≡ true → r ≡ x → r ≡ cond t x y
  at_call_true t u r x y e h f = at_true t r x y (sym e ∙ h) f

  pub at_call_false : (t u : Bool) (r x y : A) → u ≡ t → u ≡ false → r ≡ y → r ≡ cond t x y
  at_call_false t u r x y e h f = at_false t r x y (sym e ∙ h) f

  -- the number tested is what a call gave
  pub at_call_eq : (a b k : ℕ) (r x y : A) → a ≡ k → a ≡ b → r ≡ x → r ≡ cond (eqb k b) x y
  at_call_eq a b k r x y e h f = at_eq k b r x y (sym e ∙ h) f

  pub at_call_ne : (a b k : ℕ) (r x y : A) → a ≡ k → (a ≡ b → ⊥) → r ≡ y → r ≡ cond (eqb k b) x y
  at_call_ne a b k r x y e h f = at_ne k b r x y (λ q. h (e ∙ q)) f

  -- the code tests `!u`, u being what a call gave
  pub at_call_not : (t u : Bool) (r x y : A) → u ≡ t → not u ≡ true → r ≡ y → r ≡ cond t x y
  at_call_not t u r x y e h f = at_false t r x y (off u t e h) f

  pub at_call_not_not : (t u : Bool) (r x y : A) → u ≡ t → not u ≡ false → r ≡ x → r ≡ cond t x y
  at_call_not_not t u r x y e h f = at_true t r x y (on u t e h) f

  -- what holds of both choices, each where its test says so, holds of the choice
  pub cond_case : (P : A → Type 0) (t : Bool) (x y : A) → (t ≡ true → P x) → (t ≡ false → P y) → P (cond t x y)
  cond_case P true x y f g = f refl
  cond_case P false x y f g = g refl

  -- a choice between one thing and itself
  pub cond_same : (t : Bool) (x : A) → cond t x x ≡ x
  cond_same true x = refl
  cond_same false x = refl

  -- a choice by two tests
  pub cond_and : (s t : Bool) (x y : A) → cond (s && t) x y ≡ cond s (cond t x y) y
  cond_and true t x y = refl
  cond_and false t x y = refl

-- a function of a choice is the choice of its values
pub cond_map : {A B : Type 0} (f : A → B) (t : Bool) (x y : A) (x' y' : B) → f x ≡ x' → f y ≡ y' → f (cond t x y) ≡ cond t x' y'
cond_map f true x y x' y' p q = p
cond_map f false x y x' y' p q = q

pub cond_map_case : {A B : Type 0} (f : A → B) (t : Bool) (x y : A) (x' y' : B) → (t ≡ true → f x ≡ x') → (t ≡ false → f y ≡ y') → f (cond t x y) ≡ cond t x' y'
cond_map_case f true x y x' y' p q = p refl
cond_map_case f false x y x' y' p q = q refl

pub ruleset cases = (at_lt, at_ge, at_le, at_gt, at_eq, at_ne, at_true, at_false, at_call_true, at_call_false, at_call_eq, at_call_ne, at_call_not, at_call_not_not)

-- past a test that refuses, and past one that lets through
pub past : (t x : Bool) → cond t false x ≡ true → (t ≡ false) × (x ≡ true)
past true x e = absurd (false≢true e)
past false x e = (refl, e)

pub through : (t x : Bool) → cond t x false ≡ true → (t ≡ true) × (x ≡ true)
through true x e = (refl, e)
through false x e = absurd (false≢true e)
