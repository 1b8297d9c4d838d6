-- Sides and columns: a side is a power of two, at most the sheet's, so that sums of a place's numbers fit.
use mathlib.Core.Path.{◌≡◌, ap, sym, ◌∙◌}
use Prim.Native.Nat.{ℕ, suc, ◌+◌, ◌-◌, ◌*◌, ◌/◌, ◌%◌, ◌^◌, ◌≤◌, ◌<◌}
use native.Mathlib.Nat.{pow-succ', mul_assoc, mul_comm, add-mul, mul-mod_left, mul-le-mul_right}
use native.Mathlib.Omega.{arith}
use lib.Pow.{pow_pos, pow_mono, low}
use mir.Syntax.{w32}
use mir.Val.{Fits}
use Rattle.quad.specs.Numbers.{top_level}

pub side_pos : (level side : ℕ) → side ≡ 2 ^ level → 0 < side
side_pos level side e = omega (arith, pow_pos level)

pub side_le : (n level whole own : ℕ) → level ≤ n → whole ≡ 2 ^ n → own ≡ 2 ^ level → own ≤ whole
side_le n level whole own h e f = omega (arith, pow_mono {i = level} {j = n} h)

-- sums that fit
odd_le : (x half : ℕ) → x / half % 2 * half ≤ 1 * half
odd_le x half = mul-le-mul_right half (omega arith)

module _ (n : ℕ) (low : n ≤ top_level) where
  pub whole_small : 2 ^ n ≤ 2 ^ top_level
  whole_small = pow_mono {i = n} {j = top_level} low

  pub end_fits : (left level side l : ℕ) → left + 2 ^ level ≤ 2 ^ n → side ≡ 2 ^ l → l ≤ n → Fits w32 (left + side)
  end_fits left level side l h e d = omega (arith, whole_small, pow_mono {i = l} {j = n} d)

  module _ (level half x : ℕ) (deep : level ≤ n) (e : half ≡ 2 ^ (level - 1)) where
    pub half_fits : Fits w32 (x / half % 2 * half)
    half_fits = omega (arith, whole_small, pow_mono {i = level - 1} {j = n} (omega arith), odd_le x half)

    pub son_fits : (left : ℕ) → left + 2 ^ level ≤ 2 ^ n → Fits w32 (left + x / half % 2 * half)
    son_fits left h = omega (arith, whole_small, pow_mono {i = level - 1} {j = n} (omega arith), odd_le x half)

-- columns: the son i of a block at column X is at column 2 X + i
pub column_son : (X i l : ℕ) → (2 * X + i) * 2 ^ l ≡ X * 2 ^ suc l + i * 2 ^ l
column_son X i l =
    let double : 2 * X * 2 ^ l ≡ X * 2 ^ suc l = ap (λ (k : ℕ). k * 2 ^ l) (mul_comm 2 X) ∙ mul_assoc X 2 (2 ^ l) ∙ ap (λ (k : ℕ). X * k) (sym (pow-succ' 2 l)) in
    add-mul (2 * X) i (2 ^ l) ∙ ap (λ (k : ℕ). k + i * 2 ^ l) double

pub column_small : (i l : ℕ) → i < 2 → i * 2 ^ l ≤ 2 ^ l
column_small i l h = let le : i ≤ 1 = omega arith in omega (arith, mul-le-mul_right (2 ^ l) le)

-- left is lowered to a multiple of the father's side
pub lowered : (X k r : ℕ) → r < 2 ^ k → X * 2 ^ k + r - (X * 2 ^ k + r) % 2 ^ k ≡ X * 2 ^ k
lowered X k r h = rw (low X k h) (omega arith)

pub multiple : (X k : ℕ) → X * 2 ^ k % 2 ^ k ≡ 0
multiple X k = mul-mod_left X (2 ^ k)
