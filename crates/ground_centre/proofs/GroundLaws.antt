-- The ground's formulas as the code has them: its literals are the numbers that the definitions name, and a range's
-- three tests come in their order.
use Rattle.std.specs.Prelude.{Ok, Err}
use mathlib.Core.Bool.{Bool, true, false, not}
use mathlib.Core.Path.{◌≡◌, ◌∙◌}
use Prim.Native.Nat.{ℕ, suc, ◌+◌, ◌*◌, ◌%◌, ◌^◌, ◌≤◌, ◌<◌}
use native.Mathlib.Nat.{add-mul, mul_assoc, one-mul}
use native.Mathlib.Omega.{arith}
use lib.IntN.{pos}
use lib.Ieee as Ieee
use lib.Ieee.{Float, binary64}
use lib.Pow.{shl_exact}
use Rattle.base.proofs.BoolLaws.{on, off}
use Rattle.answer.specs.declared.Refusal.TheVariants.{OutOfRange}
use Rattle.quad.specs.Numbers.{top_level}
use Rattle.ground.specs.declared.Ground.{Ground}
use Rattle.ground.specs.Ground.{within, range_of, offset, reach_of}
use Rattle.ground_centre.specs.HalfPixels.{half_pixels}
use Rattle.ground_centre.proofs.Literals.{one_bits, two_bits, far_bits, finest_bits, coarsest_bits}

-- u, v and w are what the tests of east, north and step gave
module _ (g : Ground) (u : Bool) (eu : u ≡ within (Ieee.neg (Ieee.of_bits binary64 4715268809856909312)) (Ieee.of_bits binary64 4715268809856909312) g.east) where
  pub range_east : not u ≡ true → Err (OutOfRange 0) ≡ range_of g
  unfolding range_of
  range_east h = rw (range_of, off u _ (rw far_bits at eu) h)

  module _ (hu : not u ≡ false) (v : Bool) (ev : v ≡ within (Ieee.neg (Ieee.of_bits binary64 4715268809856909312)) (Ieee.of_bits binary64 4715268809856909312) g.north) where
    pub range_north : not v ≡ true → Err (OutOfRange 1) ≡ range_of g
    unfolding range_of
    range_north h = rw (range_of, on u _ (rw far_bits at eu) hu, off v _ (rw far_bits at ev) h)

    module _ (hv : not v ≡ false) (w : Bool) (ew : w ≡ within (Ieee.of_bits binary64 4562146422526312448) (Ieee.of_bits binary64 4670232813583204352) g.step) where
      pub range_step : not w ≡ true → Err (OutOfRange 2) ≡ range_of g
      unfolding range_of
      range_step h = rw (range_of, on u _ (rw far_bits at eu) hu, on v _ (rw far_bits at ev) hv, off w _ (rw (finest_bits, coarsest_bits) at ew) h)

      pub range_all : not w ≡ false → Ok 0 ≡ range_of g
      unfolding range_of
      range_all h = rw (range_of, on u _ (rw far_bits at eu) hu, on v _ (rw far_bits at ev) hv, on w _ (rw (finest_bits, coarsest_bits) at ew) h)

pub reach_is : (g : Ground) (h : ℕ) (x : Float) → x ≡ Ieee.of_int binary64 (pos h)
    → Ieee.mul binary64 (Ieee.div binary64 (Ieee.sub binary64 x (Ieee.of_bits binary64 4607182418800017408)) (Ieee.of_bits binary64 4611686018427387904)) g.step
    ≡ reach_of g h
unfolding offset reach_of
reach_is g h x e = rw (e, offset, reach_of, one_bits, two_bits)

-- a shift is exact where the index is one of a sheet's
pub half_pixels_is : (i l : ℕ) → l ≤ top_level → i < 2 ^ top_level → (2 * i + 1) * 2 ^ l % 2 ^ 32 ≡ half_pixels i l
half_pixels_is i l hl hi =
    shl_exact {a = 2 * i + 1} (suc top_level) l 32 (omega arith) (omega arith)
    ∙ omega (arith, add-mul (2 * i) 1 (2 ^ l), mul_assoc 2 i (2 ^ l), one-mul (2 ^ l))
