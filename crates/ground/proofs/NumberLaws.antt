-- No NaN is ever written: a place in range has finite numbers and a step that is not zero, so neither number of a
-- centre is a NaN. A number that is no NaN has one pattern of bits, so the statement fixes the bits of both.
use Rattle.std.specs.Prelude.{Ok, Err}
use mathlib.Core.Bool.{Bool, true, false, not, cond, ◌&&◌, ◌||◌, false≢true, beq}
use mathlib.Core.Logic.{◌⊎◌, inl, inr}
use mathlib.Core.Path.{◌≡◌, refl, ap, sym, ◌∙◌}
use Prim.Native.Nat.{ℕ, zero, suc, ◌+◌, ◌-◌, ◌*◌, ◌^◌, ◌<◌}
use native.Mathlib.Nat.{zero-mul}
use native.Mathlib.Omega.{arith}
use lib.Dec.{T, ltb, eqb}
use lib.IntN.{ℤ, pos, negsuc}
use lib.Ieee as Ieee
use lib.Ieee.{Float, Format, binary64, nan, inf, fin, prec, emax, low, up, down, unlike, of_int, units, round, odd, size, climb, span, neg, sum, add, sub, mul, div, lt, eq, le, of_bits, of_fields, to_bits, is_nan}
use lib.Ieee.Fits.{down_pos}
use lib.Ieee.Bits.{to_bits-of_bits}
use borrow.Author.Tests.{ne_eqb, le-ltb}
use Rattle.base.proofs.BoolLaws.{and_left, and_false}
use Rattle.base.proofs.CaseLaws.{cond_case}
use Rattle.answer.specs.declared.Refusal.TheVariants.{OutOfRange}
use Rattle.answer.specs.Numbers.{Outcome, and_then, unless}
use Rattle.ground.specs.declared.Ground.{Ground}
use Rattle.ground.specs.Ground.{whole, within, far, finest, coarsest, unit, two, range_of, offset, reach_of, east_of, north_of}

-- x is no NaN
abbrev pub Number : Float → Type 0
Number x = x ≡ nan → ⊥

-- x is finite; and above zero too
abbrev pub Finite : Float → Type 0
Finite nan = ⊥
Finite (inf s) = ⊥
Finite (fin s m e) = Unit {0}

abbrev pub Positive : Float → Type 0
Positive nan = ⊥
Positive (inf s) = ⊥
Positive (fin s m e) = (s ≡ false) × (m ≡ 0 → ⊥)

fin_number : (s : Bool) (m : ℕ) (e : ℤ) → Number (fin s m e)
fin_number s m e q = let z : ◌≡◌ {A = ℕ} 0 1 = cc in omega arith

inf_number : (s : Bool) → Number (inf s)
inf_number s q = let z : ◌≡◌ {A = ℕ} 0 1 = cc in omega arith

-- what is rounded is a number
odd_number : (d : ℕ) (s : Bool) (q k l : ℕ) → Number (odd d s q k l)
unfolding odd
odd_number d s zero k l = fin_number _ _ _
odd_number d s (suc q) k l = fin_number _ _ _

units_number : (f : Format) (s : Bool) (q k : ℕ) → Number (units f s q k)
unfolding units
units_number f s q k =
    cond_case Number (ltb (q * 2 ^ k) (2 ^ (low f + suc (emax f)))) (odd (suc (prec f)) s q k (low f)) (inf s) (λ h. odd_number (suc (prec f)) s q k (low f)) (λ h. inf_number s)

round_number : (f : Format) (s : Bool) (a b : ℕ) → Number (round f s a b)
unfolding round
round_number f s a b = units_number f s _ _

sum_number : (f : Format) (s : Bool) (a : ℕ) (t : Bool) (b c : ℕ) → Number (sum f s a t b c)
unfolding sum
sum_number f s a t b c =
    cond_case Number (beq s t) (round f s (a + b) c) (cond (ltb a b) (round f t (b - a) c) (round f (s && ltb b a) (a - b) c))
    (λ h. round_number f s (a + b) c)
    (λ h. cond_case Number (ltb a b) (round f t (b - a) c) (round f (s && ltb b a) (a - b) c) (λ h. round_number f t (b - a) c) (λ h. round_number f (s && ltb b a) (a - b) c))

add_number : (x y : Float) → Finite x → Number y → Number (add binary64 x y)
unfolding add
add_number nan y h k = absurd h
add_number (inf s) y h k = absurd h
add_number (fin s m e) nan h k = absurd (k refl)
add_number (fin s m e) (inf t) h k = inf_number t
add_number (fin s m e) (fin t n d) h k = sum_number binary64 s (m * up e * down d) t (n * up d * down e) (down e * down d)

less_number : (x : Float) (t : Bool) (n : ℕ) (d : ℤ) → Number x → Number (sub binary64 x (fin t n d))
unfolding add sub neg
less_number nan t n d k = absurd (k refl)
less_number (inf s) t n d k = inf_number s
less_number (fin s m e) t n d k = add_number (fin s m e) (fin (not t) n d) tt (fin_number (not t) n d)

neg_number : (y : Float) → Number y → Number (neg y)
unfolding neg
neg_number nan k = absurd (k refl)
neg_number (inf t) k = inf_number (not t)
neg_number (fin t n d) k = fin_number (not t) n d

mul_number : (x y : Float) → Number x → Positive y → Number (mul binary64 x y)
unfolding mul
mul_number nan y k h = absurd (k refl)
mul_number (inf s) nan k h = absurd h
mul_number (inf s) (inf t) k h = absurd h
mul_number (inf s) (fin t n d) k h = rw (ne_eqb n 0 h.1) (inf_number (unlike s t))
mul_number (fin s m e) nan k h = absurd h
mul_number (fin s m e) (inf t) k h = absurd h
mul_number (fin s m e) (fin t n d) k h = round_number binary64 (unlike s t) (m * up e * (n * up d)) (down e * down d)

div_number : (x : Float) (t : Bool) (n : ℕ) (d : ℤ) → Number x → (n ≡ 0 → ⊥) → Number (div binary64 x (fin t n d))
unfolding div
div_number nan t n d k h = absurd (k refl)
div_number (inf s) t n d k h = inf_number (unlike s t)
div_number (fin s m e) t n d k h = rw (ne_eqb n 0 h) (round_number binary64 (unlike s t) (m * up e * down d) (n * up d * down e))

pub one_is : unit ≡ fin false 1 (pos 0)
unfolding unit of_int units round odd size climb span
one_is = refl

pub two_is : two ≡ fin false 1 (pos 1)
unfolding two of_int units round odd size climb span
two_is = refl

finest_is : finest ≡ fin false 1 (negsuc 9)
unfolding finest of_int units round odd size climb span div
finest_is = refl

whole_number : (h : ℕ) → Number (whole h)
unfolding of_int
whole_number h = round_number binary64 false h 1

-- what the ranges say
east_finite : (x : Float) → within (Ieee.neg far) far x ≡ true → Finite x
unfolding within far of_int units round odd size climb span neg le lt eq
east_finite nan h = absurd (false≢true h)
east_finite (inf true) h = absurd (false≢true h)
east_finite (inf false) h = absurd (false≢true h)
east_finite (fin s m e) h = tt

-- nothing that is above zero lies below a zero, or below a number with a minus
none_below : (t : Bool) (a b : ℕ) → (t ≡ true) ⊎ (b ≡ 0) → (a ≡ 0 → ⊥) → Ieee.below false a t b || Ieee.level false a t b ≡ false
none_below true a b z h = rw (ne_eqb a 0 h, and_false (eqb a b))
none_below false a b (inl z) h = absurd (false≢true z)
none_below false a b (inr z) h = rw (z, le-ltb a 0 (omega arith), ne_eqb a 0 h)

finest_above : (t : Bool) (m : ℕ) (e : ℤ) → (t ≡ true) ⊎ (m ≡ 0) → Ieee.le finest (fin t m e) ≡ false
unfolding le lt eq
finest_above t m e w =
    rw finest_is (none_below t (1 * up (negsuc 9) * down e) (m * up e * down (negsuc 9)) (go w) (λ z. omega (arith, z, down_pos e)))
  where
    go : (t ≡ true) ⊎ (m ≡ 0) → (t ≡ true) ⊎ (m * up e * down (negsuc 9) ≡ 0)
    go (inl z) = inl z
    go (inr z) = inr (rw (z, zero-mul (up e)))

step_positive : (x : Float) → within finest coarsest x ≡ true → Positive x
unfolding within finest coarsest of_int units round odd size climb span div le lt eq
step_positive nan h = absurd (false≢true h)
step_positive (inf true) h = absurd (false≢true h)
step_positive (inf false) h = absurd (false≢true h)
step_positive (fin s m e) h =
    let l = and_left (Ieee.le finest (fin s m e)) (Ieee.le (fin s m e) coarsest) h in
    (not_minus s (λ z. false≢true (sym (finest_above s m e (inl z)) ∙ l)), λ z. false≢true (sym (finest_above s m e (inr z)) ∙ l))
  where
    not_minus : (s : Bool) → (s ≡ true → ⊥) → s ≡ false
    not_minus true k = absurd (k refl)
    not_minus false k = refl

-- all three numbers are in range
pub record Good (g : Ground) : Type 0 where
  pub east : Finite g.east
  pub north : Finite g.north
  pub step : Positive g.step

-- a test of the range that let the call go on held
held : (w : Bool) (which : ℕ) (next : Outcome) → and_then (unless (not w) (Err (OutOfRange which))) next ≡ Ok 0 → (w ≡ true) × (next ≡ Ok 0)
held true which next e = (refl, e)
held false which next e = absurd (let z : ◌≡◌ {A = ℕ} 0 1 = cc in omega arith)

pub good : (g : Ground) → range_of g ≡ Ok 0 → Good g
unfolding range_of
good g e =
    let a = held (within (Ieee.neg far) far g.east) 0 _ e in
    let b = held (within (Ieee.neg far) far g.north) 1 _ a.1 in
    let c = held (within finest coarsest g.step) 2 (Ok 0) (go (within finest coarsest g.step) b.1) in
    record { east = east_finite g.east a.0; north = east_finite g.north b.0; step = step_positive g.step c.0 }
  where
    go : (w : Bool) → unless (not w) (Err (OutOfRange 2)) ≡ Ok 0 → and_then (unless (not w) (Err (OutOfRange 2))) (Ok 0) ≡ Ok 0
    go true e = e
    go false e = e

offset_number : (h : ℕ) → Number (offset h)
unfolding offset
offset_number h =
    rw (one_is, two_is)
    (div_number (sub binary64 (whole h) (fin false 1 (pos 0))) false 1 (pos 1) (less_number (whole h) false 1 (pos 0) (whole_number h)) (λ q. omega arith))

reach_number : (g : Ground) (h : ℕ) → Positive g.step → Number (reach_of g h)
unfolding reach_of
reach_number g h z = mul_number (offset h) g.step (offset_number h) z

-- neither number of a centre is a NaN
pub no_nan : (g : Ground) (h k : ℕ) → range_of g ≡ Ok 0 → Number (east_of g h) × Number (north_of g k)
unfolding east_of north_of sub
no_nan g h k e =
    let o = good g e in (
      add_number g.east (reach_of g h) o.east (reach_number g h o.step),
      add_number g.north (neg (reach_of g k)) o.north (neg_number (reach_of g k) (reach_number g k o.step)),
    )

not_nan : (x : Float) → Number x → T (not (is_nan x))
unfolding is_nan
not_nan nan k = absurd (k refl)
not_nan (inf s) k = tt
not_nan (fin s m e) k = tt

-- one pattern of bits for each number; the patterns of a NaN are not told apart
pub one_pattern : (x : Float) (b c : ℕ) → Number x → b < 2 * Ieee.top binary64 → c < 2 * Ieee.top binary64 → of_bits binary64 b ≡ x → of_bits binary64 c ≡ x → b ≡ c
one_pattern x b c k hb hc eb ec =
    let tb = to_bits-of_bits binary64 b hb (rw eb (not_nan x k)) in
    let tc = to_bits-of_bits binary64 c hc (rw ec (not_nan x k)) in
    sym tb ∙ ap (to_bits binary64) (eb ∙ sym ec) ∙ tc

pub nan_alike : of_bits binary64 9221120237041090560 ≡ of_bits binary64 18444492273895866369
unfolding of_bits of_fields
nan_alike = refl
