-- The centre's call, computed: on sheet A, at the ends of the ground's ranges, and where zeros, halves and roundings
-- come in.
use Rattle.std.specs.Prelude.{Ok, Err}
use mathlib.Core.Bool.{true, false}
use mathlib.Core.List.{List, [], ◌∷◌}
use mathlib.Core.Path.{◌≡◌, refl, sym, ap, ◌∙◌}
use Prim.Native.Nat.{ℕ, ◌^◌, ◌<◌}
use native.Mathlib.Omega.{arith}
use lib.Dec.{le→leb}
use lib.IntN.{negsuc}
use lib.Ieee as Ieee
use lib.Ieee.{Float, binary64, in_float, to_unsigned, nan, inf, fin, of_int, units, round, odd, size, climb, span, neg, sum, add, sub, mul, div, lt, eq, le, fits}
use lib.Ieee.Back.{unsigned_back}
use Rattle.answer.specs.declared.Refusal.TheVariants.{OutOfRange}
use Rattle.quad.specs.Block.{column, row}
use Rattle.table.specs.Rules.{depth_to, all_of, type_ok, father_ok, once_ok, son_ok, word_ok, sons_ok, depth_ok, son_alike, mixed_ok, fault_at, fault_from, faults_of, length_ok, sizes_of, check_of, asked_of}
use Rattle.table.specs.Nodes.{first_quadrant, son_type, path_to}
use Rattle.table.specs.SheetA.{table_a}
use Rattle.ground.specs.declared.Ground.{Ground}
use Rattle.ground.specs.Ground.{whole, within, far, finest, coarsest, unit, two, range_of, offset, reach_of, east_of, north_of, centre_of, centre_after}

-- east 1000, north 2000, step 10
abbrev pub place : Ground
place = record { east = whole 1000; north = whole 2000; step = whole 10 }

-- a slice of three numbers
abbrev pub lent : List Float
lent = whole 0 ∷ whole 0 ∷ whole 7 ∷ []

-- nodes 1 and 2 of sheet A: answered, at (1005, 1995) and (1025, 1995), and the rest of the slice stays
pub record OnA : Type 0 where
  pub answered : centre_of 2 table_a 1 place 3 ≡ Ok 0
  pub answered_2 : centre_of 2 table_a 2 place 3 ≡ Ok 0
  pub node_1 : centre_after 2 table_a 1 place lent ≡ whole 1005 ∷ whole 1995 ∷ whole 7 ∷ []
  pub node_2 : centre_after 2 table_a 2 place lent ≡ whole 1025 ∷ whole 1995 ∷ whole 7 ∷ []

pub on-A : OnA
unfolding centre_after centre_of check_of sizes_of length_ok faults_of fault_from fault_at type_ok father_ok once_ok sons_ok son_ok word_ok depth_ok depth_to all_of son_alike mixed_ok asked_of first_quadrant son_type path_to column row range_of within far finest coarsest unit two offset reach_of east_of north_of of_int units round odd size climb span neg sum add sub mul div lt eq le
on-A = record { answered = refl; answered_2 = refl; node_1 = refl; node_2 = refl }

back : (i : ℕ) → i < 2 ^ 32 → to_unsigned 32 (whole i) ≡ i
unfolding in_float
back i h = (unsigned_back binary64 32 i (le→leb i (2 ^ 53) (omega arith)) h).1

-- different whole numbers are different floats
pub whole_apart : (i j : ℕ) → i < 2 ^ 32 → j < 2 ^ 32 → whole i ≡ whole j → i ≡ j
whole_apart i j hi hj e = sym (back i hi) ∙ ap (to_unsigned 32) e ∙ back j hj

-- the ends of the ranges and what lies beyond them; a place is given by its three numbers
abbrev pub at : Float → Float → Float → Ground
at x y z = record { east = x; north = y; step = z }

-- the least positive number, and the numbers next above 16777216, next below 1/1024 and next above 16384
abbrev pub least : Float
least = fin false 1 (negsuc 1073)

abbrev pub too_far : Float
too_far = fin false 4503599627370497 (negsuc 27)

abbrev pub too_fine : Float
too_fine = fin false 9007199254740991 (negsuc 62)

abbrev pub too_coarse : Float
too_coarse = fin false 4503599627370497 (negsuc 37)

pub record Edges : Type 0 where
  pub least_is : Ieee.fits binary64 least ≡ true
  pub too_far_is : Ieee.fits binary64 too_far ≡ true
  pub too_fine_is : Ieee.fits binary64 too_fine ≡ true
  pub too_coarse_is : Ieee.fits binary64 too_coarse ≡ true
  pub ends : range_of (at (Ieee.neg far) far finest) ≡ Ok 0
  pub others : range_of (at far (Ieee.neg far) coarsest) ≡ Ok 0
  pub zeros : range_of (at (whole 0) (Ieee.neg (whole 0)) (whole 1)) ≡ Ok 0
  pub subnormals : range_of (at least (Ieee.neg least) (whole 1)) ≡ Ok 0
  pub nan_east : range_of (at nan nan nan) ≡ Err (OutOfRange 0)
  pub nan_north : range_of (at (whole 0) nan nan) ≡ Err (OutOfRange 1)
  pub nan_step : range_of (at (whole 0) (whole 0) nan) ≡ Err (OutOfRange 2)
  pub inf_east : range_of (at (inf false) (whole 0) (whole 1)) ≡ Err (OutOfRange 0)
  pub minus_inf_east : range_of (at (inf true) (whole 0) (whole 1)) ≡ Err (OutOfRange 0)
  pub inf_north : range_of (at (whole 0) (inf false) (whole 1)) ≡ Err (OutOfRange 1)
  pub minus_inf_north : range_of (at (whole 0) (inf true) (whole 1)) ≡ Err (OutOfRange 1)
  pub inf_step : range_of (at (whole 0) (whole 0) (inf false)) ≡ Err (OutOfRange 2)
  pub minus_inf_step : range_of (at (whole 0) (whole 0) (inf true)) ≡ Err (OutOfRange 2)
  pub far_east : range_of (at too_far (whole 0) (whole 1)) ≡ Err (OutOfRange 0)
  pub far_west : range_of (at (Ieee.neg too_far) (whole 0) (whole 1)) ≡ Err (OutOfRange 0)
  pub far_north : range_of (at (whole 0) too_far (whole 1)) ≡ Err (OutOfRange 1)
  pub far_south : range_of (at (whole 0) (Ieee.neg too_far) (whole 1)) ≡ Err (OutOfRange 1)
  pub fine_step : range_of (at (whole 0) (whole 0) too_fine) ≡ Err (OutOfRange 2)
  pub coarse_step : range_of (at (whole 0) (whole 0) too_coarse) ≡ Err (OutOfRange 2)
  pub zero_step : range_of (at (whole 0) (whole 0) (whole 0)) ≡ Err (OutOfRange 2)

pub edges : Edges
unfolding range_of within far finest coarsest of_int units round odd size climb span neg div lt eq le fits
edges = record {
  least_is = refl;
  too_far_is = refl;
  too_fine_is = refl;
  too_coarse_is = refl;
  ends = refl;
  others = refl;
  zeros = refl;
  subnormals = refl;
  nan_east = refl;
  nan_north = refl;
  nan_step = refl;
  inf_east = refl;
  minus_inf_east = refl;
  inf_north = refl;
  minus_inf_north = refl;
  inf_step = refl;
  minus_inf_step = refl;
  far_east = refl;
  far_west = refl;
  far_north = refl;
  far_south = refl;
  fine_step = refl;
  coarse_step = refl;
  zero_step = refl;
}

-- the number next above 1
abbrev pub odd_step : Float
odd_step = fin false 4503599627370497 (negsuc 51)

pub record Small : Type 0 where
  -- two numbers that are not zero and cancel give +0
  pub east_cancels : east_of (at (Ieee.neg (whole 10)) (whole 0) (whole 10)) 3 ≡ whole 0
  pub north_cancels : north_of (at (whole 0) (whole 10) (whole 10)) 3 ≡ whole 0
  -- along each axis the middle of the first block of four pixels lies half a pixel from the origin
  pub half_east : east_of (at (whole 1) (whole 0) (whole 1)) 2 ≡ fin false 3 (negsuc 0)
  pub half_north : north_of (at (whole 0) (whole 1) (whole 1)) 2 ≡ fin false 1 (negsuc 0)
  -- 2.5 · (1 + 2^-52) is rounded to 2.5 + 2^-51 before -2.5 is added; with one rounding it would leave 5 · 2^-53
  pub not_fused : east_of (at (Ieee.neg (fin false 5 (negsuc 0))) (whole 0) odd_step) 6 ≡ fin false 1 (negsuc 50)
  -- 1.5 · (1 + 2^-52) lies half way and is rounded to the even 1.5 + 2^-51
  pub to_even : north_of (at (whole 0) (fin false 3 (negsuc 0)) odd_step) 4 ≡ Ieee.neg (fin false 1 (negsuc 50))

pub small : Small
unfolding unit two offset reach_of east_of north_of of_int units round odd size climb span neg sum add sub mul div
small = record { east_cancels = refl; north_cancels = refl; half_east = refl; half_north = refl; not_fused = refl; to_even = refl }
