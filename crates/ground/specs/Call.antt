-- The statement of the centre's call, which its contract cites.
use Rattle.std.specs.Prelude.{List, ◌≡◌, ℕ, length, Float}
use Rattle.answer.specs.Numbers.{Outcome}
use Rattle.ground.specs.declared.Ground.{Ground}
use Rattle.ground.specs.Ground.{centre_of, centre_after}

-- asked for the centre of node p on the ground g, with the numbers `before` in the slice that is lent, the call gives r
-- and leaves `after` in it
pub record Centres (n : ℕ) (T : List ℕ) (p : ℕ) (g : Ground) (before : List Float) (r : Outcome) (after : List Float) : Type 0 where
  pub gives : r ≡ centre_of n T p g (length before)
  pub leaves : after ≡ centre_after n T p g before
