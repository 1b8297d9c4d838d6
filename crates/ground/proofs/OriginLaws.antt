-- The origin is the centre of the top left pixel. An offset is (h - 1) / 2 exactly; the centre of a pixel lies as many
-- steps from the place that was given as the pixel has columns and rows before it, and that of the top left pixel is
-- the place itself, but that -0 + 0 is +0.
use Rattle.std.specs.Prelude.{Ok}
use mathlib.Core.Bool.{true, false, true≢false}
use mathlib.Core.List.{List}
use mathlib.Core.Path.{◌≡◌, refl, sym, ap, ◌∙◌}
use Prim.Native.Nat.{ℕ, suc, ◌+◌, ◌-◌, ◌*◌, ◌^◌, ◌≤◌, ◌<◌}
use native.Mathlib.Nat.{mul-one, zero-mul, add-mul, mul_assoc, mul-pos, lt_of_lt_of_le}
use native.Mathlib.Omega.{arith}
use lib.Dec.{T, lit<}
use lib.Pow.{shl_lt, pow_mono}
use lib.IntN.{pos}
use lib.Ieee.{Float, binary64, nan, inf, fin, up, down, of_int, round, sum, add, sub, neg, mul, div, fits}
use lib.Ieee.Exact.{HasValue, round_exact}
use lib.Ieee.Back.{round_whole}
use lib.Ieee.Scale.{round_same}
use lib.Ieee.Fits.{down_pos}
use borrow.Author.Tests.{le-ltb}
use Rattle.quad.specs.Block.{column, row}
use Rattle.table.specs.Rules.{Asked}
use Rattle.table.specs.Nodes.{path_to, side_of, left_of, top_of, centre_across, centre_down}
use Rattle.table.proofs.BlockLaws.{on_sheet}
use Rattle.ground.specs.declared.Ground.{Ground}
use Rattle.ground.specs.Ground.{whole, range_of, offset, reach_of, east_of, north_of}
use Rattle.ground.proofs.NumberLaws.{Positive, good, one_is, two_is}
use Rattle.ground.proofs.RoundingLaws.{less_zero, more_zero, zero_round, whole_zero, minus_zero, zeros_added}

-- (i + 1) · d / d less 1 is i
one_off : (a d i : ℕ) → 0 < d → a ≡ suc i * d → sum binary64 false a true (1 * 1 * d) (d * 1) ≡ round binary64 false i 1
unfolding sum
one_off a d i p e =
    let l : 1 * 1 * d ≤ a = omega (arith, e, add-mul i 1 d) in
    rw (le-ltb a (1 * 1 * d) l)
    (round_same binary64 false (a - 1 * 1 * d) (d * 1) i 1 (omega (arith, p)) (omega arith) (omega (arith, e, add-mul i 1 d, mul-one d)))

less_one : (x : Float) (i : ℕ) → HasValue x false (suc i) 1 → sub binary64 x (fin false 1 (pos 0)) ≡ round binary64 false i 1
unfolding sub add neg
less_one nan i v = absurd v
less_one (inf s) i v = absurd v
less_one (fin true m e) i v = absurd (true≢false v.0)
less_one (fin false m e) i v = one_off (m * up e * 1) (down e) i (down_pos e) v.1

halved : (x : Float) (i : ℕ) → HasValue x false i 1 → div binary64 x (fin false 1 (pos 1)) ≡ round binary64 false i 2
unfolding div
halved nan i v = absurd v
halved (inf s) i v = absurd v
halved (fin true m e) i v = absurd (true≢false v.0)
halved (fin false m e) i v =
    round_same binary64 false (m * up e * 1) (1 * 2 * down e) i 2 (omega (arith, down_pos e)) (omega arith) (omega (arith, v.1))

offset_is : (i : ℕ) → i < 2 ^ 53 → offset (suc i) ≡ round binary64 false i 2
unfolding offset of_int
offset_is i h =
    rw (one_is, two_is)
    (ap (λ (x : Float). div binary64 x (fin false 1 (pos 1))) (less_one (whole (suc i)) i (round_whole binary64 false (suc i) h))
    ∙ halved (round binary64 false i 1) i (round_whole binary64 false i (omega arith)))

-- nothing is lost in an offset: it is i / 2
pub offset_exact : (i : ℕ) → i < 2 ^ 53 → HasValue (offset (suc i)) false i 2
offset_exact i h =
    rw (offset_is i h)
    (round_exact binary64 false i 2 i 1073 (omega arith) h (lt_of_lt_of_le (shl_lt 53 1073 h) (pow_mono {i = 1126} {j = 2098} (omega arith))) (sym (mul_assoc i (2 ^ 1073) 2)))

-- the centre of the pixel in column or row i
offset_pixel : (i : ℕ) → 2 * i < 2 ^ 53 → offset (suc (2 * i)) ≡ whole i
unfolding of_int
offset_pixel i h = offset_is (2 * i) h ∙ round_same binary64 false (2 * i) 2 i 1 (omega arith) (omega arith) (omega arith)

-- the centre of a node that is a pixel, in column x and row y: east + x · step and north - y · step, each operation
-- rounded once
module _ {n : ℕ} {T : List ℕ} {p : ℕ} (a : Asked n T p) (w : side_of n T p ≡ 1) (g : Ground) where
  -- h is 2x + 1
  across : (x : ℕ) (c : ℕ) → x ≡ c * side_of n T p → c < 2 ^ 7 → (2 * x + side_of n T p ≡ suc (2 * x)) × (2 * x < 2 ^ 53)
  across x c e h = let q : x ≡ c = e ∙ ap (λ (k : ℕ). c * k) w ∙ mul-one c in (omega (arith, w), omega (arith, q, h))

  pub pixel_east : east_of g (centre_across n T p) ≡ add binary64 g.east (mul binary64 (whole (left_of n T p)) g.step)
  unfolding east_of reach_of
  pixel_east =
      let q = across (left_of n T p) (column (path_to T n p)) refl (on_sheet a).column in
      ap (east_of g) q.0 ∙ ap (λ (o : Float). add binary64 g.east (mul binary64 o g.step)) (offset_pixel (left_of n T p) q.1)

  pub pixel_north : north_of g (centre_down n T p) ≡ sub binary64 g.north (mul binary64 (whole (top_of n T p)) g.step)
  unfolding north_of reach_of
  pixel_north =
      let q = across (top_of n T p) (row (path_to T n p)) refl (on_sheet a).row in
      ap (north_of g) q.0 ∙ ap (λ (o : Float). sub binary64 g.north (mul binary64 o g.step)) (offset_pixel (top_of n T p) q.1)

-- the origin lies no step from itself
no_steps : (x : Float) → Positive x → mul binary64 (fin false 0 (pos 0)) x ≡ fin false 0 (pos 0)
unfolding mul
no_steps nan k = absurd k
no_steps (inf s) k = absurd k
no_steps (fin s n d) k = rw (k.0, zero-mul (n * up d)) (zero_round false (1 * down d) (mul-pos (lit< tt) (down_pos d)))

module _ (g : Ground) (e : range_of g ≡ Ok 0) where
  at_origin : reach_of g 1 ≡ fin false 0 (pos 0)
  unfolding reach_of
  at_origin = rw (offset_pixel 0 (lit< tt), whole_zero) (no_steps g.step (good g e).step)

  -- at h = 1, which is the top left pixel's centre, lies east itself, and at k = 1 north itself; only east -0 becomes
  -- +0
  pub origin_east : T (fits binary64 g.east) → (g.east ≡ neg (whole 0) → ⊥) → east_of g 1 ≡ g.east
  unfolding east_of
  origin_east f z = rw at_origin (more_zero g.east (good g e).east f (λ q. z (q ∙ sym minus_zero)))

  pub origin_minus_zero : g.east ≡ neg (whole 0) → east_of g 1 ≡ whole 0
  unfolding east_of
  origin_minus_zero z = rw (at_origin, z ∙ minus_zero) zeros_added

  pub origin_north : T (fits binary64 g.north) → north_of g 1 ≡ g.north
  unfolding north_of sub neg
  origin_north f = rw at_origin (less_zero g.north (good g e).north f)
