-- What was found, as an outcome, in the code's own values.
use Rattle.std.specs.Prelude.{Ok, Err, Option, Some, None, ok_or}
use Rattle.std.specs.Result.{IsErr, IsErrAnd}
use mathlib.Core.Path.{◌≡◌, ap, ◌∙◌}
use Prim.Native.Nat.{ℕ, ◌≤◌}
use Rattle.answer.specs.declared.Refusal.{Refusal}
use Rattle.answer.specs.declared.Refusal.TheVariants.{NoBlock}
use Rattle.answer.specs.Numbers.{Outcome, with_level}
use Rattle.answer.proofs.OutcomeLaws.{given_back}
use Rattle.quad.specs.Numbers.{none}
use Rattle.neighbour.specs.declared.Found.{Found}
use Rattle.neighbour.specs.Neighbour.{outcome_of}
use Rattle.neighbour.specs.Search.{Small}

pub outcome_off : (found : Option Found) (r : Outcome) (e : Refusal) → IsErr r × IsErrAnd r (λ x. x ≡ e) → Err e ≡ ok_or found NoBlock → r ≡ outcome_of found
outcome_off (Some f) r e g h = cc
outcome_off None r e g h = let z : e ≡ NoBlock = cc in given_back r e g ∙ rw z

pub outcome_at : (found : Option Found) (f : Found) (v : ℕ) → found ≡ Some f → v ≡ with_level f.node f.level → Ok v ≡ outcome_of found
outcome_at found f v h e = rw h (ap Ok e)

pub small_at : (found : Option Found) (f : Found) → Small found → found ≡ Some f → with_level f.node f.level ≤ none
unfolding Small
small_at found f s h = (rw h at s).0
