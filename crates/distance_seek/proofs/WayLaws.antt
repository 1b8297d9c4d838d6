-- The code's tables by direction, one by one: the nearest quarter, the next one, and the directions in which the
-- quarters are searched.
use mathlib.Core.Bool.{Bool, true, false, cond, ◌&&◌}
use mathlib.Core.Path.{◌≡◌, refl}
use Prim.Native.Nat.{ℕ, zero, suc, ◌<◌}
use native.Mathlib.Omega.{arith}
use lib.Dec.{eqb, ltb}
use lib.ListN.{get_or}
use mathlib.Core.List.{[], ◌∷◌}
use borrow.Author.Tests.{eqb-true, ltb-true}
use Rattle.base.specs.All.{all}
use Rattle.base.proofs.AllLaws.{all_at}
use Rattle.base.proofs.BoolLaws.{and_left, and_right}
use Rattle.quad.specs.Direction.{east_step, south_step}
use Rattle.neighbour.specs.Search.{stay}
use Rattle.distance_seek.specs.Search.{near_quarter, next_quarter, NextWay, OtherWay}

abbrev near : ℕ → ℕ
near D = get_or (2 ∷ 0 ∷ 0 ∷ 1 ∷ 3 ∷ 2 ∷ 1 ∷ 0 ∷ []) D 0

abbrev next : ℕ → ℕ
next D = get_or (3 ∷ 2 ∷ 1 ∷ 3 ∷ 1 ∷ 0 ∷ 3 ∷ 2 ∷ []) D 0

pub near_rule : (D : ℕ) → D < stay → near D ≡ near_quarter (east_step D) (south_step D)
unfolding east_step south_step near_quarter
near_rule D d =
    eqb-true _ _ (all_at (λ (D : ℕ). eqb (near D) (near_quarter (east_step D) (south_step D))) 8 refl D d)

pub next_rule : (D : ℕ) → D < stay → next D ≡ next_quarter (east_step D) (south_step D)
unfolding east_step south_step next_quarter
next_rule D d =
    eqb-true _ _ (all_at (λ (D : ℕ). eqb (next D) (next_quarter (east_step D) (south_step D))) 8 refl D d)

-- a direction that goes by two given steps
abbrev by_steps : ℕ → ℕ → ℕ → Bool
by_steps way east south = ltb way stay && (eqb (east_step way) east && eqb (south_step way) south)

module _ (way east south : ℕ) (h : by_steps way east south ≡ true) where
  steps : eqb (east_step way) east && eqb (south_step way) south ≡ true
  steps = and_right (ltb way stay) (eqb (east_step way) east && eqb (south_step way) south) h

  by_below : way < stay
  by_below = ltb-true way stay (and_left (ltb way stay) (eqb (east_step way) east && eqb (south_step way) south) h)

  by_across : east_step way ≡ east
  by_across = eqb-true (east_step way) east (and_left (eqb (east_step way) east) (eqb (south_step way) south) steps)

  by_down : south_step way ≡ south
  by_down = eqb-true (south_step way) south (and_right (eqb (east_step way) east) (eqb (south_step way) south) steps)

abbrev next_way : ℕ → ℕ
next_way D = get_or (0 ∷ 1 ∷ 2 ∷ 3 ∷ 0 ∷ 0 ∷ 2 ∷ 2 ∷ []) D 0

abbrev other_way : ℕ → ℕ
other_way D = get_or (0 ∷ 1 ∷ 2 ∷ 3 ∷ 3 ∷ 1 ∷ 3 ∷ 1 ∷ []) D 0

next_steps : all (λ D. by_steps (next_way D) (cond (ltb D 4) (east_step D) 1) (south_step D)) 8 ≡ true
unfolding east_step south_step
next_steps = refl

other_steps : all (λ D. by_steps (other_way D) (east_step D) (cond (ltb D 4) (south_step D) 1)) 8 ≡ true
unfolding east_step south_step
other_steps = refl

pub next_way_rule : (D : ℕ) → D < stay → NextWay D (next_way D)
next_way_rule D d =
    let h = all_at (λ (D : ℕ). by_steps (next_way D) (cond (ltb D 4) (east_step D) 1) (south_step D)) 8 next_steps D d in
    record { below = by_below _ _ _ h; across = by_across _ _ _ h; down = by_down _ _ _ h }

pub other_way_rule : (D : ℕ) → D < stay → OtherWay D (other_way D)
other_way_rule D d =
    let h = all_at (λ (D : ℕ). by_steps (other_way D) (east_step D) (cond (ltb D 4) (south_step D) 1)) 8 other_steps D d in
    record { below = by_below _ _ _ h; across = by_across _ _ _ h; down = by_down _ _ _ h }

-- a direction goes along one axis, a side's, or along both, a corner's
pub data Goes (D : ℕ) : Type 0 where
  upright : ltb D 4 ≡ true → eqb (east_step D) 1 ≡ true → eqb (south_step D) 1 ≡ false → Goes D
  level : ltb D 4 ≡ true → eqb (east_step D) 1 ≡ false → eqb (south_step D) 1 ≡ true → Goes D
  slanting : ltb D 4 ≡ false → eqb (east_step D) 1 ≡ false → eqb (south_step D) 1 ≡ false → Goes D

pub goes : (D : ℕ) → D < stay → Goes D
unfolding east_step south_step
goes zero d = upright refl refl refl
goes (suc zero) d = level refl refl refl
goes (suc (suc zero)) d = upright refl refl refl
goes (suc (suc (suc zero))) d = level refl refl refl
goes (suc (suc (suc (suc zero)))) d = slanting refl refl refl
goes (suc (suc (suc (suc (suc zero))))) d = slanting refl refl refl
goes (suc (suc (suc (suc (suc (suc zero)))))) d = slanting refl refl refl
goes (suc (suc (suc (suc (suc (suc (suc zero))))))) d = slanting refl refl refl
goes (suc (suc (suc (suc (suc (suc (suc (suc k)))))))) d = absurd (omega arith)
