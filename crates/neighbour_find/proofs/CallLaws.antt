-- The tests for 7, as the calls go through them. `bounds` closes the returns, beside answer's `thens`.
use Rattle.std.specs.Prelude.{Err}
use mathlib.Core.Bool.{Bool, true, false, not}
use mathlib.Core.Path.{◌≡◌}
use Prim.Native.Nat.{ℕ, ◌≤◌, ◌<◌}
use lib.Dec.{ltb}
use borrow.Author.Tests.{lt-ltb, le-ltb}
use Rattle.base.proofs.BoolLaws.{on, off}
use Rattle.answer.specs.declared.Refusal.TheVariants.{BadDirection}
use Rattle.answer.specs.Numbers.{Outcome, and_then, unless}

-- a direction, side or corner above the last
module _ (last D : ℕ) (next : Outcome) where
  pub bad_above : last < D → Err (BadDirection D) ≡ and_then (unless (ltb last D) (Err (BadDirection D))) next
  bad_above h = rw (lt-ltb last D h)

  pub good_within : (r : Outcome) → D ≤ last → r ≡ next → r ≡ and_then (unless (ltb last D) (Err (BadDirection D))) next
  good_within r h e = rw (le-ltb last D h) e

-- a corner that a call says is not on its side
module _ (u b : Bool) (C : ℕ) (next : Outcome) (e : u ≡ b) where
  pub bad_apart : not u ≡ true → Err (BadDirection C) ≡ and_then (unless (not b) (Err (BadDirection C))) next
  bad_apart h = rw (off u b e h)

  pub good_joined : (r : Outcome) → not u ≡ false → r ≡ next → r ≡ and_then (unless (not b) (Err (BadDirection C))) next
  good_joined r h f = rw (on u b e h) f

pub ruleset bounds = (bad_above, good_within, bad_apart, good_joined)
