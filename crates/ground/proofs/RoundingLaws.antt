-- What an f64 holds is not rounded away: a zero that is added to a number leaves it, but that -0 + 0 is +0. A number
-- has one writing, with an odd m, so what rounding gives, being the same number, is the same float.
use mathlib.Core.Bool.{Bool, true, false, ◌&&◌}
use mathlib.Core.Path.{◌≡◌, refl, sym, ap, ◌∙◌}
use Prim.Native.Nat.{ℕ, zero, suc, ◌+◌, ◌-◌, ◌*◌, ◌%◌, ◌^◌, ◌≤◌, ◌<◌}
use native.Mathlib.Nat.{add-zero, sub-zero, mul-one, zero-mul, mul_assoc, mul-pos, pow-suc, zero-lt-suc, lt_of_lt_of_le, lt_of_not-le, not-le_of_lt}
use native.Mathlib.Omega.{arith}
use lib.Dec.{T, eqb, ltb, leb, eqb→eq, ltb→lt, leb→le, lit<}
use lib.Pow.{shl_lt, pow-add, pow-lt, pow_mono, pow_pos}
use lib.IntN.{ℤ, pos, negsuc}
use lib.Ieee.{Float, binary64, nan, inf, fin, up, down, of_int, round, units, odd, size, climb, span, sum, add, neg, fits}
use lib.Ieee.Digits.{back}
use lib.Ieee.Exact.{HasValue, round_exact}
use lib.Ieee.Scale.{round_same}
use lib.Ieee.Fits.{up_pos, down_pos, and_l, and_r, round-fits}
use borrow.Author.Tests.{lt-ltb, le-ltb}
use Rattle.ground.specs.Ground.{whole}
use Rattle.ground.proofs.NumberLaws.{Finite}

pow_back : (i j : ℕ) → 2 ^ i ≤ 2 ^ j → i ≤ j
pow_back i j h = let l : i < suc j = lt_of_not-le (λ (g : suc j ≤ i). not-le_of_lt (pow-lt g) h) in omega arith

-- what is said of a number that an f64 holds
parts : (m : ℕ) (e : ℤ) → T (eqb (suc m % 2) 1 && ltb (suc m) (2 ^ 53) && leb (down e) (2 ^ 1074) && ltb (suc m * up e) (2 ^ 1024 * down e))
    → (suc m % 2 ≡ 1) × (suc m < 2 ^ 53) × (down e ≤ 2 ^ 1074) × (suc m * up e < 2 ^ 1024 * down e)
parts m e t =
    let a : Bool = eqb (suc m % 2) 1 in
    let b : Bool = ltb (suc m) (2 ^ 53) in
    let c : Bool = leb (down e) (2 ^ 1074) in
    let d : Bool = ltb (suc m * up e) (2 ^ 1024 * down e) in (
      eqb→eq (suc m % 2) 1 (and_l a b (and_l (a && b) c (and_l (a && b && c) d t))),
      ltb→lt (suc m) (2 ^ 53) (and_r a b (and_l (a && b) c (and_l (a && b && c) d t))),
      leb→le (down e) (2 ^ 1074) (and_r (a && b) c (and_l (a && b && c) d t)),
      ltb→lt (suc m * up e) (2 ^ 1024 * down e) (and_r (a && b && c) d t),
    )

-- what an f64 holds is not rounded away
unrounded : (s : Bool) (m : ℕ) (e : ℤ) → T (fits binary64 (fin s m e)) → HasValue (round binary64 s (m * up e * 1) (down e * 1)) s (m * up e * 1) (down e * 1)
unfolding fits
unrounded s zero e t =
    round_exact binary64 s (0 * up e * 1) (down e * 1) 0 0 (mul-pos (down_pos e) (lit< tt)) (lit< tt) (lit< tt) (rw (zero-mul (up e), zero-mul (down e * 1)) refl)
unrounded s (suc m) (pos k) t =
    let h = parts m (pos k) t in
    round_exact binary64 s (suc m * 2 ^ k * 1) 1 (suc m) (k + 1074) (lit< tt) h.1
    (rw (pow-add 2 k 1074, ← mul_assoc (suc m) (2 ^ k) (2 ^ 1074)) (shl_lt 1024 1074 h.3))
    (rw (pow-add 2 k 1074, ← mul_assoc (suc m) (2 ^ k) (2 ^ 1074), mul-one (suc m * 2 ^ k), mul-one (suc m * 2 ^ k * 2 ^ 1074)) refl)
unrounded s (suc m) (negsuc k) t =
    let h = parts m (negsuc k) t in
    let l = pow_back (suc k) 1074 h.2 in
    let j = 1074 - suc k in
    round_exact binary64 s (suc m * 1 * 1) (2 ^ suc k * 1) (suc m) j (mul-pos (pow_pos (suc k)) (lit< tt)) h.1
    (lt_of_lt_of_le (shl_lt 53 j h.1) (pow_mono {i = 53 + j} {j = 2098} (omega arith)))
    (rw (mul-one (2 ^ suc k), mul-one (suc m), mul-one (suc m), mul_assoc (suc m) (2 ^ j) (2 ^ suc k), ← pow-add 2 j (suc k), back 1074 (suc k) l) refl)

-- a number with an odd m is written in one way
even : (m t : ℕ) → m % 2 ≡ 1 → m ≡ t * 2 → ⊥
even m t o h = omega arith

shift : (n b : ℕ) → n * 2 ^ suc b ≡ n * 2 ^ b * 2
shift n b = ap (λ (k : ℕ). n * k) (pow-suc 2 b) ∙ sym (mul_assoc n (2 ^ b) 2)

one_writing : (m n a b : ℕ) → m % 2 ≡ 1 → n % 2 ≡ 1 → m * 2 ^ a ≡ n * 2 ^ b → (m ≡ n) × (a ≡ b)
one_writing m n zero zero o p h = (omega arith, refl)
one_writing m n zero (suc b) o p h = absurd (even m (n * 2 ^ b) o (omega (arith, shift n b)))
one_writing m n (suc a) zero o p h = absurd (even n (m * 2 ^ a) p (omega (arith, shift m a)))
one_writing m n (suc a) (suc b) o p h =
    let r = one_writing m n a b o p (omega (arith, h, shift m a, shift n b)) in (r.0, ap suc r.1)

-- of a number that an f64 holds: m is odd, or 0 with the exponent 0
is_odd : (s : Bool) (m : ℕ) (e : ℤ) → T (fits binary64 (fin s (suc m) e)) → suc m % 2 ≡ 1
unfolding fits
is_odd s m e t = (parts m e t).0

is_flat : (s : Bool) (e : ℤ) → T (fits binary64 (fin s 0 e)) → e ≡ pos 0
unfolding fits
is_flat s (pos zero) t = refl
is_flat s (pos (suc k)) t = absurd (let q = eqb→eq (2 ^ suc k * 1) 1 t in omega (arith, q, pow-suc 2 k, pow_pos k))
is_flat s (negsuc k) t = absurd (let q = eqb→eq (1 * 2 ^ suc k) 1 t in omega (arith, q, pow-suc 2 k, pow_pos k))

-- two that are one number are one
one_number : (n : ℕ) (d : ℤ) (m : ℕ) (e : ℤ) → n % 2 ≡ 1 → m % 2 ≡ 1 → n * up d * down e ≡ m * up e * down d → (n ≡ m) × (d ≡ e)
one_number n (pos k) m (pos j) o p h = let r = one_writing n m k j o p (omega (arith, h)) in (r.0, ap pos r.1)
one_number n (pos k) m (negsuc j) o p h = absurd (even m (n * 2 ^ k * 2 ^ j) p (omega (arith, h, shift (n * 2 ^ k) j)))
one_number n (negsuc k) m (pos j) o p h = absurd (even n (m * 2 ^ j * 2 ^ k) o (omega (arith, h, shift (m * 2 ^ j) k)))
one_number n (negsuc k) m (negsuc j) o p h = let r = one_writing n m (suc j) (suc k) o p (omega (arith, h)) in (r.0, ap negsuc (omega (arith, r.1)))

some : (n : ℕ) (d e : ℤ) (z : ℕ) → z ≡ 0 → suc n * up d * down e ≡ z → ⊥
some n d e z h k = omega (arith, h, k, mul-pos (mul-pos (zero-lt-suc n) (up_pos d)) (down_pos e))

same : (x : Float) (s : Bool) (m : ℕ) (e : ℤ) → T (fits binary64 x) → T (fits binary64 (fin s m e)) → HasValue x s (m * up e * 1) (down e * 1) → x ≡ fin s m e
same nan s m e f k v = absurd v
same (inf t) s m e f k v = absurd v
same (fin t n d) s m e f k v = go n m f k (rw (mul-one (down e), mul-one (m * up e)) at v.1)
  where
    go : (n m : ℕ) → T (fits binary64 (fin t n d)) → T (fits binary64 (fin s m e)) → n * up d * down e ≡ m * up e * down d → fin t n d ≡ fin s m e
    go zero zero f k h = λ i. fin (v.0 i) 0 ((is_flat t d f ∙ sym (is_flat s e k)) i)
    go zero (suc m) f k h = absurd (some m e d (0 * up d * down e) (rw (zero-mul (up d)) (zero-mul (down e))) (sym h))
    go (suc n) zero f k h = absurd (some n d e (0 * up e * down d) (rw (zero-mul (up e)) (zero-mul (down d))) h)
    go (suc n) (suc m) f k h = let r = one_number (suc n) d (suc m) e (is_odd t n d f) (is_odd s m e k) h in λ i. fin (v.0 i) (r.0 i) (r.1 i)

-- so it is not changed where a zero is added to it, but that -0 + 0 is +0
rounded : (s : Bool) (m : ℕ) (e : ℤ) → T (fits binary64 (fin s m e)) → round binary64 s (m * up e * 1) (down e * 1) ≡ fin s m e
rounded s m e f = same (round binary64 s (m * up e * 1) (down e * 1)) s m e (round-fits binary64 s (m * up e * 1) (down e * 1)) f (unrounded s m e f)

minus_zero_added : (s : Bool) (a z c : ℕ) → z ≡ 0 → sum binary64 s a true z c ≡ round binary64 s a c
unfolding sum
minus_zero_added true a z c e = rw (e, add-zero a)
minus_zero_added false a z c e = rw (e, le-ltb a 0 (omega arith), sub-zero a)

zero_added : (s : Bool) (a z c : ℕ) → z ≡ 0 → (s ≡ true → a ≡ 0 → ⊥) → sum binary64 s a false z c ≡ round binary64 s a c
unfolding sum
zero_added false a z c e k = rw (e, add-zero a)
zero_added true zero z c e k = absurd (k refl refl)
zero_added true (suc a) z c e k = rw (e, le-ltb (suc a) 0 (omega arith), lt-ltb 0 (suc a) (omega arith), sub-zero (suc a))

pub less_zero : (x : Float) → Finite x → T (fits binary64 x) → add binary64 x (fin true 0 (pos 0)) ≡ x
unfolding add
less_zero nan k f = absurd k
less_zero (inf s) k f = absurd k
less_zero (fin s m e) k f = minus_zero_added s (m * up e * 1) (0 * 1 * down e) (down e * 1) (zero-mul (down e)) ∙ rounded s m e f

pub more_zero : (x : Float) → Finite x → T (fits binary64 x) → (x ≡ fin true 0 (pos 0) → ⊥) → add binary64 x (fin false 0 (pos 0)) ≡ x
unfolding add
more_zero nan k f z = absurd k
more_zero (inf s) k f z = absurd k
more_zero (fin s m e) k f z =
    zero_added s (m * up e * 1) (0 * 1 * down e) (down e * 1) (zero-mul (down e)) (not_zero m f z) ∙ rounded s m e f
  where
    not_zero : (m : ℕ) → T (fits binary64 (fin s m e)) → (fin s m e ≡ fin true 0 (pos 0) → ⊥) → s ≡ true → m * up e * 1 ≡ 0 → ⊥
    not_zero zero f z h q = z (λ i. fin (h i) 0 (is_flat s e f i))
    not_zero (suc m) f z h q = omega (arith, q, mul-pos (zero-lt-suc m) (up_pos e))

-- zeros
pub zero_round : (s : Bool) (d : ℕ) → 0 < d → round binary64 s 0 d ≡ fin s 0 (pos 0)
unfolding round units odd size climb span
zero_round s d p = round_same binary64 s 0 d 0 1 p (lit< tt) (sym (zero-mul d))

pub whole_zero : whole 0 ≡ fin false 0 (pos 0)
unfolding of_int round units odd size climb span
whole_zero = refl

pub minus_zero : neg (whole 0) ≡ fin true 0 (pos 0)
unfolding neg of_int round units odd size climb span
minus_zero = refl

pub zeros_added : add binary64 (fin true 0 (pos 0)) (fin false 0 (pos 0)) ≡ whole 0
unfolding add sum of_int round units odd size climb span
zeros_added = refl
