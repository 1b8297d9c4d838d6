-- Decoding, from its refusals to the raster: the outcome and the raster that the call leaves, each way that it ends.
use Rattle.std.specs.Prelude.{Ok, Err}
use Rattle.std.specs.Result.{IsErr, IsErrAnd}
use Rattle.answer.specs.declared.Refusal.{Refusal}
use mathlib.Core.Bool.{false}
use mathlib.Core.List.{List}
use mathlib.Core.Path.{◌≡◌, refl, ap, sym, ◌∙◌}
use Prim.Native.Nat.{ℕ, ◌^◌}
use native.Mathlib.Nat.{div-eq_of_lt}
use lib.ListN.{length}
use Rattle.answer.specs.Numbers.{Outcome, answers}
use Rattle.answer.proofs.OutcomeLaws.{then_err, then_ok, given_back, refusal_refuses}
use Rattle.table.specs.Rules.{sizes_of, faults_of, check_of, Accepted}
use Rattle.table.proofs.AcceptedLaws.{root_at}
use Rattle.table.proofs.CheckLaws.{accepted_of}
use Rattle.table.proofs.PictureLaws.{pixel_shade}
use Rattle.raster.specs.Raster.{raster_length, raster_of, decode_of, decoded_raster}
use Rattle.raster.specs.Calls.{Decoding}
use Rattle.raster_fill.specs.Painting.{Painted, in_block, colours_at, Paintable}
use Rattle.raster.proofs.TestLaws.{length_of}
use Rattle.raster.proofs.BuildLaws.{sheet_on}
use Rattle.raster.proofs.RasterLaws.{raster_size, raster_pixel, same_raster}

-- a sheet painted in its one block
pub painted_sheet : (n : ℕ) (T U W : List ℕ) → length U ≡ 4 ^ n → Painted n (in_block n 0 0) (colours_at T n 0) U W → W ≡ raster_of n T
unfolding in_block
painted_sheet n T U W e p =
    same_raster n W (raster_of n T) (p.size ∙ e) (raster_size n T) (λ x y hx hy.
    p.pixels x y hx hy
    ∙ rw (div-eq_of_lt hx, div-eq_of_lt hy) (sym (raster_pixel n T x y hx hy ∙ pixel_shade n T x y)))

module _ (n : ℕ) (T U : List ℕ) where
  decodes_not : (o : Outcome) → o ≡ decode_of n T (length U) → answers o ≡ false → Decoding n T U o U
  unfolding decoded_raster
  decodes_not o e f = record { answer = e; raster = rw (← e, f) }

  -- a test's refusal, or the next test
  module _ (o : Outcome) (e : Refusal) (g : IsErr o × IsErrAnd o (λ x. x ≡ e)) where
    refused_at : o ≡ decode_of n T (length U) → Decoding n T U o U
    refused_at h = decodes_not o h (ap answers (given_back o e g) ∙ refusal_refuses e)

    pub decodes_sizes : Err e ≡ sizes_of n T → Decoding n T U o U
    unfolding decode_of
    decodes_sizes h = refused_at (then_err (sizes_of n T) _ o e g h)

    module _ (v : ℕ) (sized : Ok v ≡ sizes_of n T) where
      pub decodes_length : Err e ≡ raster_length n (length U) → Decoding n T U o U
      unfolding decode_of
      decodes_length h = refused_at (then_ok (sizes_of n T) _ o v sized (then_err (raster_length n (length U)) _ o e g h))

      pub decodes_faults : (w : ℕ) → Ok w ≡ raster_length n (length U) → Err e ≡ faults_of n T → Decoding n T U o U
      unfolding decode_of
      decodes_faults w long h =
          refused_at (then_ok (sizes_of n T) _ o v sized (then_ok (raster_length n (length U)) _ o w long (then_err (faults_of n T) (Ok 0) o e g h)))

  -- all tests passed
  module _ (v w k : ℕ) (sized : Ok v ≡ sizes_of n T) (long : Ok w ≡ raster_length n (length U)) (sound : Ok k ≡ faults_of n T) where
    passed_length : length U ≡ 4 ^ n
    passed_length = length_of n (length U) (ap answers (sym long))

    pub passed_accepted : Accepted n T
    unfolding check_of
    passed_accepted = accepted_of n T (rw (check_of, ← sized) (ap answers (sym sound)))

    pub sheet_paintable : Paintable n T 0 n 0 0 (length U)
    sheet_paintable = record {
      place = root_at passed_accepted;
      block = sheet_on n;
      whole = passed_length;
    }

    pub decodes_done : (W : List ℕ) → Painted n (in_block n 0 0) (colours_at T n 0) U W → Decoding n T U (Ok 0) W
    unfolding decoded_raster decode_of
    decodes_done W p =
        let d : Ok 0 ≡ decode_of n T (length U) =
        then_ok (sizes_of n T) _ (Ok 0) v sized (then_ok (raster_length n (length U)) _ (Ok 0) w long (then_ok (faults_of n T) (Ok 0) (Ok 0) k sound refl)) in
        record { answer = d; raster = rw (← d) (painted_sheet n T U W passed_length p) }
