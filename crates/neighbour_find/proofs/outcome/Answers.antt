-- `neighbour_find::outcome` takes what was found apart.
use native.Mathlib.Omega.{arith}
use Rattle.neighbour_find.proofs.StepLaws.{outcome_off, outcome_at, small_at}
use borrow.Author.Rules.{rules}
use Rattle.neighbour_find.proofs.outcome.Goals as goal

pub returns-in_err-found : goal.returns-in_err-found
returns-in_err-found c = search (outcome_off, rules)

pub overflow_cast-found : goal.overflow_cast-found
overflow_cast-found c = omega (arith, small_at _ _ c.requires c.in_ok-found.ensures.ok_part)

pub with_level-requires : goal.with_level-requires
with_level-requires c = small_at _ _ c.requires c.in_ok-found.ensures.ok_part

pub returns : goal.returns
returns c = search (outcome_at, rules)
