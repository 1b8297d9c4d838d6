-- What stands in a number's lanes, and what is added up and counted in them.
use mathlib.Core.Bool.{true, false}
use mathlib.Core.Logic.{⊎_elim}
use mathlib.Core.Path.{◌≡◌, refl}
use Prim.Native.Nat.{ℕ, ◌+◌, ◌*◌, ◌/◌, ◌%◌, ◌≤◌, ◌<◌}
use native.Mathlib.Nat.{div-one}
use native.Mathlib.Omega.{arith}
use lib.Dec.{eqb}
use borrow.Author.Tests.{eqb-true, eqb-false}
use Rattle.base.proofs.BoolLaws.{by_bool}
use Rattle.raster.specs.Sums.{mixed_of}
use Rattle.raster_lanes.specs.Lanes.{packed, lane_bits, last_bits, fourths_of, mixed_lanes, lane_sum, mixed_two, forks_of, FourSums}
use Rattle.raster_lanes.proofs.KindLaws.{mixed_like, mixed_unlike}

-- the lanes' bits that are taken
pub bits_last : (v : ℕ) → lane_bits 1 8 v ≡ last_bits v
unfolding lane_bits last_bits
bits_last v = rw (div-one v, div-one (v / 65536), div-one (v / 65536 / 65536), div-one (v / 65536 / 65536 / 65536))

pub bits_fourths : (v : ℕ) → lane_bits 4 2 v ≡ fourths_of v
unfolding lane_bits fourths_of
bits_fourths v = refl

-- the first lane, and those beyond it
lane : (p q u : ℕ) → p < 65536 → u ≡ p + 65536 * q → (u % 65536 ≡ p) × (u / 65536 ≡ q)
lane p q u lt e = (omega arith, omega arith)

third_bit : (p q u : ℕ) → p ≤ 7 → u ≡ p + 65536 * q → (u / 4 % 2 ≡ p / 4) × (u / 65536 ≡ q)
third_bit p q u le e = (omega arith, omega arith)

-- the same where something stands in the lane's upper half
low_bits : (p m q u : ℕ) → p ≤ 4 → m ≤ 4 → u ≡ p + 256 * m + 65536 * q → (u % 8 ≡ p) × (u / 65536 ≡ q)
low_bits p m q u hp hm e = (omega arith, omega arith)

apart_lanes : (a b c d i j k l v : ℕ) → a ≤ 4 → b ≤ 4 → c ≤ 4 → d ≤ 4 → i ≤ 4 → j ≤ 4 → k ≤ 4 → l ≤ 4
    → v ≡ a + 256 * i + 65536 * (b + 256 * j + 65536 * (c + 256 * k + 65536 * (d + 256 * l))) → last_bits v ≡ packed a b c d
unfolding last_bits
apart_lanes a b c d i j k l v ha hb hc hd hi hj hk hl e =
    let first = low_bits a i (b + 256 * j + 65536 * (c + 256 * k + 65536 * (d + 256 * l))) v ha hi e in
    let second = low_bits b j (c + 256 * k + 65536 * (d + 256 * l)) (v / 65536) hb hj first.1 in
    let third = low_bits c k (d + 256 * l) (v / 65536 / 65536) hc hk second.1 in
    let fourth = low_bits d l 0 (v / 65536 / 65536 / 65536) hd hl (omega (arith, third.1)) in
    rw (first.0, second.0, third.0, fourth.0)

-- eight bytes of two at most, and the same moved by one byte, added up
pub carried : (a b c d e f g h r : ℕ) → a ≤ 2 → b ≤ 2 → c ≤ 2 → d ≤ 2 → e ≤ 2 → f ≤ 2 → g ≤ 2 → h ≤ 2
    → r ≡ a + 256 * b + 65536 * c + 16777216 * d + 4294967296 * e + 1099511627776 * f + 281474976710656 * g + 72057594037927936 * h
    → last_bits (r + r / 256) ≡ packed (a + b) (c + d) (e + f) (g + h)
carried a b c d e f g h r ha hb hc hd he hf hg hh is =
    let part : r / 256 ≡ b + 256 * c + 65536 * d + 16777216 * e + 4294967296 * f + 1099511627776 * g + 281474976710656 * h = omega arith in
    apart_lanes (a + b) (c + d) (e + f) (g + h) (b + c) (d + e) (f + g) h (r + r / 256) (omega arith) (omega arith) (omega arith) (omega arith) (omega arith) (omega arith) (omega arith) (omega arith) (omega arith)

fourths_lanes : (a b c d v : ℕ) → a ≤ 7 → b ≤ 7 → c ≤ 7 → d ≤ 7 → v ≡ packed a b c d → fourths_of v ≡ packed (a / 4) (b / 4) (c / 4) (d / 4)
unfolding fourths_of
fourths_lanes a b c d v ha hb hc hd e =
    let first = third_bit a (b + 65536 * (c + 65536 * d)) v ha (omega arith) in
    let second = third_bit b (c + 65536 * d) (v / 65536) hb first.1 in
    let third = third_bit c d (v / 65536 / 65536) hc second.1 in
    let fourth = third_bit d 0 (v / 65536 / 65536 / 65536) hd (omega (arith, third.1)) in
    rw (first.0, second.0, third.0, fourth.0)

-- sums that are neither 0 nor the most
four_mixed : (s : ℕ) → s ≤ 4 → (s + 3) / 4 ≡ s / 4 + mixed_of s 4
four_mixed s le =
    ⊎_elim
    (λ (q : eqb (s % 4) 0 ≡ true). let z = eqb-true (s % 4) 0 q in rw (mixed_like s 4 z) (omega arith))
    (λ (q : eqb (s % 4) 0 ≡ false). let z = eqb-false (s % 4) 0 q in rw (mixed_unlike s 4 z) (omega arith))
    (by_bool (eqb (s % 4) 0))

sixteen_mixed : (s : ℕ) → s ≤ 16 → (s + 15) / 16 ≡ s / 16 + mixed_of s 16
sixteen_mixed s le =
    ⊎_elim
    (λ (q : eqb (s % 16) 0 ≡ true). let z = eqb-true (s % 16) 0 q in rw (mixed_like s 16 z) (omega arith))
    (λ (q : eqb (s % 16) 0 ≡ false). let z = eqb-false (s % 16) 0 q in rw (mixed_unlike s 16 z) (omega arith))
    (by_bool (eqb (s % 16) 0))

mixed_few : (s k : ℕ) → mixed_of s k ≤ 1
mixed_few s k =
    ⊎_elim
    (λ (q : eqb (s % k) 0 ≡ true). rw (mixed_like s k (eqb-true (s % k) 0 q)) (omega arith))
    (λ (q : eqb (s % k) 0 ≡ false). rw (mixed_unlike s k (eqb-false (s % k) 0 q)) (omega arith))
    (by_bool (eqb (s % k) 0))

-- four sums of four pixels
module _ (v : ℕ) (s : FourSums v) where
  raised : fourths_of (v + 844437815230467) ≡ packed ((s.a + 3) / 4) ((s.b + 3) / 4) ((s.c + 3) / 4) ((s.d + 3) / 4)
  raised = fourths_lanes (s.a + 3) (s.b + 3) (s.c + 3) (s.d + 3) (v + 844437815230467) (omega (arith, s.few)) (omega (arith, s.few)) (omega (arith, s.few)) (omega (arith, s.few)) (omega (arith, s.is))

  as_they_are : fourths_of v ≡ packed (s.a / 4) (s.b / 4) (s.c / 4) (s.d / 4)
  as_they_are = fourths_lanes s.a s.b s.c s.d v (omega (arith, s.few)) (omega (arith, s.few)) (omega (arith, s.few)) (omega (arith, s.few)) s.is

  pub fourths_rise : fourths_of v ≤ fourths_of (v + 844437815230467)
  fourths_rise =
      omega (arith, raised, as_they_are, four_mixed s.a s.few.0, four_mixed s.b s.few.1, four_mixed s.c s.few.2, four_mixed s.d s.few.3)

  mixed_lanes_are : mixed_lanes v ≡ packed (mixed_of s.a 4) (mixed_of s.b 4) (mixed_of s.c 4) (mixed_of s.d 4)
  unfolding mixed_lanes
  mixed_lanes_are =
      omega (arith, raised, as_they_are, four_mixed s.a s.few.0, four_mixed s.b s.few.1, four_mixed s.c s.few.2, four_mixed s.d s.few.3)

  pub mixed_lanes_few : mixed_lanes v ≤ packed 1 1 1 1
  mixed_lanes_few = omega (arith, mixed_lanes_are, mixed_few s.a 4, mixed_few s.b 4, mixed_few s.c 4, mixed_few s.d 4)

lane_sum_is : (a b c d v : ℕ) → a < 65536 → b < 65536 → c < 65536 → v ≡ packed a b c d → lane_sum v ≡ a + b + c + d
unfolding lane_sum
lane_sum_is a b c d v ha hb hc e =
    let first = lane a (b + 65536 * (c + 65536 * d)) v ha (omega arith) in
    let second = lane b (c + 65536 * d) (v / 65536) hb first.1 in
    let third = lane c d (v / 65536 / 65536) hc second.1 in
    rw (first.0, second.0, third.0, third.1)

mixed_two_is : (a b c d v : ℕ) → a ≤ 16 → b ≤ 16 → c ≤ 16 → v ≡ packed a b c d → mixed_two v ≡ mixed_of a 16 + mixed_of c 16
unfolding mixed_two
mixed_two_is a b c d v ha hb hc e =
    let first = lane a (b + 65536 * (c + 65536 * d)) v (omega arith) (omega arith) in
    let second = lane b (c + 65536 * d) (v / 65536) (omega arith) first.1 in
    let third = lane c d (v / 65536 / 65536) (omega arith) second.1 in
    rw (first.0, third.0) (omega (arith, sixteen_mixed a ha, sixteen_mixed c hc))

-- the forks of two blocks of level 2, the upper sums u and the lower ones w
pub forks_are : (u w : ℕ) (s : FourSums u) (t : FourSums w) → forks_of u w
    ≡ mixed_of s.a 4 + mixed_of s.b 4 + mixed_of t.a 4 + mixed_of t.b 4 + mixed_of (s.a + s.b + t.a + t.b) 16
    + (mixed_of s.c 4 + mixed_of s.d 4 + mixed_of t.c 4 + mixed_of t.d 4 + mixed_of (s.c + s.d + t.c + t.d) 16)
unfolding forks_of
forks_are u w s t =
    let few : (k : ℕ) → mixed_of k 4 ≤ 1 = λ k. mixed_few k 4 in
    let both : mixed_lanes u + mixed_lanes w ≡ packed (mixed_of s.a 4 + mixed_of t.a 4) (mixed_of s.b 4 + mixed_of t.b 4) (mixed_of s.c 4 + mixed_of t.c 4) (mixed_of s.d 4 + mixed_of t.d 4) =
    omega (arith, mixed_lanes_are u s, mixed_lanes_are w t) in
    let small = lane_sum_is _ _ _ _ _ (omega (arith, few s.a, few t.a)) (omega (arith, few s.b, few t.b)) (omega (arith, few s.c, few t.c)) both in
    let all : u + w ≡ packed (s.a + t.a) (s.b + t.b) (s.c + t.c) (s.d + t.d) = omega (arith, s.is, t.is) in
    let moved = (lane (s.a + t.a) (s.b + t.b + 65536 * (s.c + t.c + 65536 * (s.d + t.d))) (u + w) (omega (arith, s.few, t.few)) (omega arith)).1 in
    let large = mixed_two_is (s.a + s.b + t.a + t.b) (s.b + t.b + s.c + t.c) (s.c + s.d + t.c + t.d) (s.d + t.d) (u + w + (u + w) / 65536) (omega (arith, s.few, t.few)) (omega (arith, s.few, t.few)) (omega (arith, s.few, t.few)) (omega (arith, all, moved)) in
    omega (arith, small, large)

pub forks_sum : (u w a b s t : ℕ) → a ≡ mixed_lanes u → b ≡ mixed_lanes w → s ≡ lane_sum (a + b) → t ≡ mixed_two (u + w + (u + w) / 65536) → s + t ≡ forks_of u w
unfolding forks_of
forks_sum u w a b s t ea eb es et = rw (es, et, ea, eb)
