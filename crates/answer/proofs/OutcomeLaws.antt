-- Refusals in their order, as a call goes through them: a test that a call made, then the next. `thens` closes the
-- returns. What an answer says of the tests; and that what was put into one number can be read off it.
use Rattle.std.specs.Prelude.{Ok, Err}
use Rattle.std.specs.Result.{IsErr, IsErrAnd}
use Rattle.std.proofs.lemmas.Result.{err_from_is_err_and}
use mathlib.Core.Bool.{Bool, true, false, false≢true}
use mathlib.Core.Path.{◌≡◌, refl, ap, sym, ◌∙◌}
use Prim.Native.Nat.{ℕ, ◌<◌}
use native.Mathlib.Omega.{arith}
use Rattle.base.proofs.BoolLaws.{off}
use Rattle.answer.specs.declared.Refusal.{Refusal}
use Rattle.answer.specs.declared.Refusal.TheVariants.{BadLevel, WrongLength, BadNode, TooDeep, NeedlessFork, NoNode, BadDirection, BadPixel, NoRoom, BadPlace, OutOfRange, BadByte, Absent, BadCount, TooLarge, NoBlock}
use Rattle.answer.specs.Numbers.{Outcome, code_of, level_room, with_level, node_in, level_in, answers, and_then, unless}

-- a refusal is no answer
pub refusal_refuses : (e : Refusal) → answers (Err e) ≡ false
refusal_refuses (BadLevel v) = refl
refusal_refuses (WrongLength v) = refl
refusal_refuses (BadNode v) = refl
refusal_refuses (TooDeep v) = refl
refusal_refuses (NeedlessFork v) = refl
refusal_refuses (NoNode v) = refl
refusal_refuses (BadDirection v) = refl
refusal_refuses (BadPixel v) = refl
refusal_refuses (NoRoom v) = refl
refusal_refuses BadPlace = refl
refusal_refuses (OutOfRange v) = refl
refusal_refuses (BadByte v) = refl
refusal_refuses (Absent v) = refl
refusal_refuses (BadCount v) = refl
refusal_refuses (TooLarge v) = refl
refusal_refuses NoBlock = refl

-- a test's `?` gives its refusal back, or goes on
pub given_back : (r : Outcome) (e : Refusal) → IsErr r × IsErrAnd r (λ x. x ≡ e) → r ≡ Err e
given_back r e h = let p = err_from_is_err_and r h.1 in rw (p.1, p.2) refl

pub then_err : (o next r : Outcome) (e : Refusal) → IsErr r × IsErrAnd r (λ x. x ≡ e) → Err e ≡ o → r ≡ and_then o next
then_err o next r e g h = given_back r e g ∙ rw (← h, off false (answers (Err e)) (sym (refusal_refuses e)) refl) refl

pub then_ok : (o next r : Outcome) (v : ℕ) → Ok v ≡ o → r ≡ next → r ≡ and_then o next
then_ok o next r v h f = rw (← h) f

pub ruleset thens = (then_err, then_ok)

-- refusals may be taken together
pub then_then : (a b c : Outcome) → and_then (and_then a b) c ≡ and_then a (and_then b c)
then_then a b c = go (answers a) refl
  where
    go : (u : Bool) → answers a ≡ u → and_then (and_then a b) c ≡ and_then a (and_then b c)
    go true q = rw q
    go false q = rw (q, q)

-- both answered where one followed by the other does; and a test that answers was passed
pub both_answer : (o next : Outcome) → answers (and_then o next) ≡ true → (answers o ≡ true) × (answers next ≡ true)
both_answer o next e = go (answers o) refl
  where
    go : (b : Bool) → answers o ≡ b → (answers o ≡ true) × (answers next ≡ true)
    go true q = (q, rw q at e)
    go false q = absurd (false≢true (sym q ∙ rw q at e))

pub then_answered : (o next : Outcome) (v : ℕ) → and_then o next ≡ Ok v → (answers o ≡ true) × (next ≡ Ok v)
then_answered o next v e = go (answers o) refl
  where
    go : (b : Bool) → answers o ≡ b → (answers o ≡ true) × (next ≡ Ok v)
    go true q = (q, rw q at e)
    go false q = absurd (false≢true (sym q ∙ ap answers (rw q at e)))

pub answers_unless : (b : Bool) (o : Outcome) → answers o ≡ false → answers (unless b o) ≡ true → b ≡ false
answers_unless true o f e = absurd (false≢true (sym f ∙ e))
answers_unless false o f e = refl

-- a code is below 256, so code and value are read off the number
pub code_small : (o : Outcome) → code_of o < 256
code_small (Ok v) = omega arith
code_small (Err (BadLevel v)) = omega arith
code_small (Err (WrongLength v)) = omega arith
code_small (Err (BadNode v)) = omega arith
code_small (Err (TooDeep v)) = omega arith
code_small (Err (NeedlessFork v)) = omega arith
code_small (Err (NoNode v)) = omega arith
code_small (Err (BadDirection v)) = omega arith
code_small (Err (BadPixel v)) = omega arith
code_small (Err (NoRoom v)) = omega arith
code_small (Err BadPlace) = omega arith
code_small (Err (OutOfRange v)) = omega arith
code_small (Err (BadByte v)) = omega arith
code_small (Err (Absent v)) = omega arith
code_small (Err (BadCount v)) = omega arith
code_small (Err (TooLarge v)) = omega arith
code_small (Err NoBlock) = omega arith

-- a level is below 8, so node and level are read off the value
pub level_apart : (k level : ℕ) → level < level_room → (node_in (with_level k level) ≡ k) × (level_in (with_level k level) ≡ level)
level_apart k level h = (omega arith, omega arith)

pub level_together : (v : ℕ) → with_level (node_in v) (level_in v) ≡ v
level_together v = omega arith
