-- The floats of document 01 by their bits, as the code's literals have them.
use mathlib.Core.Path.{◌≡◌, refl}
use lib.Ieee.{binary64, of_bits, of_fields, of_int, units, round, odd, size, climb, span, div}
use Rattle.ground.specs.Ground.{far, finest, coarsest, unit, two}

pub one_bits : of_bits binary64 4607182418800017408 ≡ unit
unfolding unit of_bits of_fields of_int units round odd size climb span
one_bits = refl

pub two_bits : of_bits binary64 4611686018427387904 ≡ two
unfolding two of_bits of_fields of_int units round odd size climb span
two_bits = refl

pub far_bits : of_bits binary64 4715268809856909312 ≡ far
unfolding far of_bits of_fields of_int units round odd size climb span
far_bits = refl

pub finest_bits : of_bits binary64 4562146422526312448 ≡ finest
unfolding finest of_bits of_fields of_int units round odd size climb span div
finest_bits = refl

pub coarsest_bits : of_bits binary64 4670232813583204352 ≡ coarsest
unfolding coarsest of_bits of_fields of_int units round odd size climb span
coarsest_bits = refl
