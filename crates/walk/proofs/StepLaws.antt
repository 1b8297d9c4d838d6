-- What a step's functions know of the numbers that they meet, and the lemmas that the check takes to their goals.
use mathlib.Core.Path.{◌≡◌}
use mathlib.Core.Bool.{true}
use Prim.Native.Nat.{ℕ, ◌+◌, ◌^◌, ◌≤◌, ◌<◌}
use native.Mathlib.Omega.{arith}
use lib.Pow.{pow_mono}
use lib.Dec.{ltb, leb}
use borrow.Author.Tests.{ltb-true}
use Rattle.std.proofs.lemmas.Bool.Decides.{nat_tests}
use Rattle.base.proofs.BoolLaws.{and_right}
use Rattle.answer.proofs.OutcomeLaws.{refusal_refuses}
use Rattle.table.proofs.CheckLaws.{sized_ok, sizes_good}
use Rattle.walk.specs.declared.Place.{Place}
use Rattle.walk.specs.Walk.{spans}
use Rattle.walk.proofs.NumberLaws.{side_pos, side_le, whole_small, end_fits, half_fits, son_fits}
use Rattle.walk.proofs.PlaceLaws.{good, level_small, row_in}

-- a place whose columns hold x lies before their end
pub before_end : (p : Place) (side k : ℕ) → side ≡ 2 ^ k → p.level ≤ k → spans p ≡ true → p.x ≤ p.left + side
before_end p side k e d h =
    let l : p.x < p.left + 2 ^ p.level = ltb-true p.x (p.left + 2 ^ p.level) (and_right (leb p.left p.x) (ltb p.x (p.left + 2 ^ p.level)) h) in
    omega (arith, pow_mono {i = p.level} {j = k} d)

pub ruleset tests = (nat_tests, side_pos, side_le, whole_small, end_fits, half_fits, son_fits, before_end, good, level_small, row_in, sized_ok, sizes_good, refusal_refuses)
