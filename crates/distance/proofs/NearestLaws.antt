-- The plain call's nearest white pixel: no white pixel is nearer, and it is attained, or it is the mark; so a number of
-- which all that holds is it.
use mathlib.Core.Bool.{cond}
use mathlib.Core.Logic.{◌⊎◌, ⊎_elim}
use mathlib.Core.Path.{◌≡◌}
use Prim.Native.Nat.{ℕ, ◌^◌, ◌≤◌, ◌<◌}
use native.Mathlib.Nat.{le_trans, le_antisymm}
use lib.Dec.{eqb}
use borrow.Author.Tests.{eq-eqb, eqb-true}
use Rattle.base.specs.Tab.{least}
use Rattle.base.proofs.CaseLaws.{cond_case}
use Rattle.base.proofs.LeastLaws.{least_top, least_le, least_ge}
use Rattle.quad.specs.Numbers.{white, none}
use Rattle.distance.specs.Distance.{to_pixel, plain_outside, to_outside, nearest}

-- a white pixel of the picture f on a sheet of level n
pub record White (n : ℕ) (f : ℕ → ℕ → ℕ) (i j : ℕ) : Type 0 where
  pub across : i < 2 ^ n
  pub down : j < 2 ^ n
  pub colour : f i j ≡ white

-- at the distance v from (h, k)
pub record WhiteAt (n : ℕ) (f : ℕ → ℕ → ℕ) (h k v : ℕ) : Type 0 where
  pub i : ℕ
  pub j : ℕ
  pub pixel : White n f i j
  pub far : to_pixel h k i j ≡ v

module _ (n : ℕ) (f : ℕ → ℕ → ℕ) (h k : ℕ) where
  -- what pixel (i, j) counts for, and a row
  abbrev one : ℕ → ℕ → ℕ
  one j i = cond (eqb (f i j) white) (to_pixel h k i j) none

  abbrev along : ℕ → ℕ
  along j = least none (one j) (2 ^ n)

  abbrev plain : ℕ
  plain = nearest plain_outside n f h k

  pub nearest_top : plain ≤ none
  unfolding nearest to_outside
  nearest_top = least_top none along (2 ^ n)

  pub nearest_le : (i j : ℕ) → White n f i j → plain ≤ to_pixel h k i j
  unfolding nearest to_outside
  nearest_le i j p =
      let e : one j i ≡ to_pixel h k i j = rw (eq-eqb (f i j) white p.colour) in
      le_trans (least_le none along (2 ^ n) j p.down) (rw e at (least_le none (one j) (2 ^ n) i p.across))

  pub nearest_ge : (v : ℕ) → v ≤ none → ((i j : ℕ) → White n f i j → v ≤ to_pixel h k i j) → v ≤ plain
  unfolding nearest to_outside
  nearest_ge v t below =
      least_ge none along v (2 ^ n) t (λ j hj.
      least_ge none (one j) v (2 ^ n) t (λ i hi.
      cond_case (λ (m : ℕ). v ≤ m) (eqb (f i j) white) (to_pixel h k i j) none
      (λ e. below i j (record { across = hi; down = hj; colour = eqb-true (f i j) white e }))
      (λ e. t)))

  pub nearest_is : (v : ℕ) → v ≤ none → ((i j : ℕ) → White n f i j → v ≤ to_pixel h k i j) → (v ≡ none) ⊎ WhiteAt n f h k v → plain ≡ v
  nearest_is v t below a =
      le_antisymm
      (⊎_elim (λ (e : v ≡ none). rw e nearest_top) (λ (w : WhiteAt n f h k v). rw (← w.far) (nearest_le w.i w.j w.pixel)) a)
      (nearest_ge v t below)
