-- Powers: one factor more or less, products of powers of two, and 4 ^ n as the square of 2 ^ n; where the halves of a
-- block begin.
use mathlib.Core.Path.{◌≡◌, refl, ap, sym, ◌∙◌}
use Prim.Native.Nat.{ℕ, zero, suc, ◌+◌, ◌-◌, ◌*◌, ◌/◌, ◌^◌, ◌<◌}
use native.Mathlib.Nat.{add_comm, add-mul, mul_assoc, mul_comm, pow-succ', div-lt_iff_lt-mul}
use native.Mathlib.Omega.{arith}
use lib.Pow.{pow-add, pow_pos}

pub pow_less : (b l : ℕ) → 0 < l → b ^ l ≡ b * b ^ (l - 1)
pow_less b l h =
    let e : l ≡ suc (l - 1) = omega arith in
    ap (λ (k : ℕ). b ^ k) e ∙ pow-succ' b (l - 1)

pub pow_product : (k l m : ℕ) → k + l ≡ m → 2 ^ m ≡ 2 ^ k * 2 ^ l
pow_product k l m e = ap (λ (j : ℕ). 2 ^ j) (sym e) ∙ pow-add 2 k l

-- a number is below 2 ^ m where its upper k of m digits are below 2 ^ k
pub below_pow : (k l m x : ℕ) → k + l ≡ m → x / 2 ^ l < 2 ^ k → x < 2 ^ m
below_pow k l m x e h = rw (pow_product k l m e) ((div-lt_iff_lt-mul {k = 2 ^ l} {x = x} {y = 2 ^ k} (pow_pos l)).0 h)

pub four_pow : (n : ℕ) → 4 ^ n ≡ 2 ^ n * 2 ^ n
four_pow n = go n ∙ pow-add 2 n n
  where
    go : (k : ℕ) → 4 ^ k ≡ 2 ^ (k + k)
    go zero = refl
    go (suc k) =
        let e : suc k + suc k ≡ suc (suc (k + k)) = omega arith in
        rw e (omega (arith, pow-succ' 4 k, pow-succ' 2 (k + k), pow-succ' 2 (suc (k + k)), go k))

-- where half b of block C begins, H being the half's side
pub halved : (b C H : ℕ) → (b + 2 * C) * H ≡ C * (2 * H) + b * H
halved b C H =
    add-mul b (2 * C) H ∙ add_comm (b * H) (2 * C * H) ∙ ap (λ (k : ℕ). k * H + b * H) (mul_comm 2 C) ∙ ap (λ (k : ℕ). k + b * H) (mul_assoc C 2 H)
