-- A sheet's blocks as windows on its raster: the types that are noted of windows are those of blocks, from the sheet
-- down to its quarters.
use mathlib.Core.List.{List}
use mathlib.Core.Path.{◌≡◌, refl, ap, sym, ◌∙◌}
use Prim.Native.Nat.{ℕ, suc, ◌+◌, ◌-◌, ◌*◌, ◌/◌, ◌%◌, ◌^◌, ◌≤◌, ◌<◌}
use native.Mathlib.Nat.{add-mul, mul_assoc, mul_left_comm, pow-le-pow_right}
use native.Mathlib.Omega.{arith}
use lib.ListN.{get_or}
use Rattle.base.proofs.PowLaws.{four_pow}
use Rattle.quad.specs.Numbers.{fork_type, top_level}
use Rattle.quad.specs.Tree.{colour, size_of, tree_of}
use Rattle.quad.proofs.TreeLaws.{pixels_top}
use Rattle.raster.specs.Sums.{four_sum, sixteen_sum}
use Rattle.raster_lanes.specs.Lanes.{window, kind_of}
use Rattle.raster_notes.specs.Notes.{slots_of, part_at, Noted, Lies}
use Rattle.raster_lanes.proofs.WindowLaws.{window_tree}
use Rattle.raster_notes.proofs.TellLaws.{told_kind, told_pixels, told_sixteen}
use Rattle.raster_notes.proofs.NoteLaws.{twice, slots_fit, slots_part, slots_four, times_below, noted_own}
use Rattle.raster.specs.Raster.{picture_of}
use Rattle.raster.specs.Blocks.{Picture}
use Rattle.raster_count.specs.Kinds.{Known}
use Rattle.raster_lanes.proofs.KindLaws.{five_nodes}
use Rattle.raster.proofs.BlockLaws.{block_coloured}
use Rattle.raster_count.proofs.ForkLaws.{fork_pos}

-- the window where a block begins, and the whole sheet's
pub block_window : (n : ℕ) (R : List ℕ) (l x y : ℕ) → tree_of (window R (2 ^ n) (y * 2 ^ l * 2 ^ n + x * 2 ^ l)) l 0 0 ≡ tree_of (picture_of n R) l x y
block_window n R l x y = window_tree R (picture_of n R) (2 ^ n) _ l x y (λ i j. refl) refl

pub sheet_window : (n : ℕ) (R : List ℕ) → tree_of (window R (2 ^ n) 0) n 0 0 ≡ tree_of (picture_of n R) n 0 0
sheet_window n R = window_tree R (picture_of n R) (2 ^ n) 0 n 0 0 (λ i j. refl) (omega arith)

module _ (n : ℕ) (R : List ℕ) (pic : Picture n R) where
  pub sheet_lies : Lies R (2 ^ n) 0 n
  sheet_lies = record {
    colours = pic.colours;
    ends = omega (arith, pic.whole, four_pow n);
    few = rw pic.whole (pixels_top n pic.top);
    wide = pow-le-pow_right {n = 2} (omega arith) {i = n} {j = top_level} pic.top;
  }

  few : (x y : ℕ) → picture_of n R x y ≤ 1
  few x y = pic.colours _

  -- four pixels, and sixteen
  pub four_told : (x y s k : ℕ) → s ≡ four_sum (picture_of n R) x y → k ≡ kind_of s 4 → k ≡ colour (tree_of (picture_of n R) 1 x y)
  four_told x y s k es ek = ek ∙ rw es (told_kind _ _ _ (block_coloured n R pic 1 x y) (told_pixels (picture_of n R) few x y))

  pub sixteen_told : (x y s k : ℕ) → s ≡ sixteen_sum (picture_of n R) x y → k ≡ kind_of s 16 → k ≡ colour (tree_of (picture_of n R) 2 x y)
  sixteen_told x y s k es ek = ek ∙ rw es (told_kind _ _ _ (block_coloured n R pic 2 x y) (told_sixteen (picture_of n R) few x y))

-- a fork of four pixels; and below level 3 a fork of another level is of sixteen
pub small_five : (n : ℕ) (R : List ℕ) → Picture n R → n ≡ 1 → colour (tree_of (picture_of n R) n 0 0) ≡ fork_type → 5 ≡ size_of (tree_of (window R (2 ^ n) 0) n 0 0)
small_five n R pic one e = five n one e ∙ sym (ap size_of (sheet_window n R))
  where
    five : (m : ℕ) → m ≡ 1 → colour (tree_of (picture_of n R) m 0 0) ≡ fork_type → 5 ≡ size_of (tree_of (picture_of n R) m 0 0)
    five m is k = rw is (five_nodes (picture_of n R) (few n R pic) 0 0 (rw is at k))

pub small_two : (n : ℕ) (R : List ℕ) → Picture n R → n < 3 → (n ≡ 1 → ⊥) → colour (tree_of (picture_of n R) n 0 0) ≡ fork_type → n ≡ 2
small_two n R pic lt z e = omega (arith, fork_pos n n 0 0 R pic e, other)
  where
    other : n ≡ 1 → ⊥
    other = z

-- where a quarter begins
part_place : (l x y q w : ℕ) → 0 < l → part_at w (y * 2 ^ l * w + x * 2 ^ l) (2 ^ (l - 1)) q ≡ (2 * y + q / 2) * 2 ^ (l - 1) * w + (2 * x + q % 2) * 2 ^ (l - 1)
unfolding part_at
part_place l x y q w pos =
    let h : ℕ = 2 ^ (l - 1) in
    let double : (z : ℕ) → z * 2 ^ l ≡ 2 * z * h = λ z. rw (twice l pos, mul_left_comm z 2 h) (sym (mul_assoc 2 z h)) in
    rw (double x, double y, add-mul (2 * y) (q / 2) h, add-mul (2 * y * h) (q / 2 * h) w, add-mul (2 * x) (q % 2) h) (omega arith)

module _ (n : ℕ) (R K : List ℕ) (l x y s t : ℕ) (k : Known n R K l x y s t) where
  pub known_kind : get_or K s 0 ≡ colour (tree_of (picture_of n R) l x y)
  known_kind = noted_own R (2 ^ n) K (l - 3) l s _ k.noted ∙ ap colour (block_window n R l x y)

  -- a fork's quarters
  pub known_part : 4 ≤ l → colour (tree_of (picture_of n R) l x y) ≡ fork_type → (q : ℕ) → q < 4
      → Known n R K (l - 1) (2 * x + q % 2) (2 * y + q / 2) (s + 1 + q * (t / 4)) (t / 4)
  known_part low fk q lt =
      let deep : l - 3 ≡ suc (l - 1 - 3) = omega arith in
      let all = rw deep at k.noted in
      record {
        noted = rw (← part_place l x y q (2 ^ n) (omega arith), slots_part l t low k.slots) (unfold Noted in all.1 (ap colour (block_window n R l x y) ∙ fk) q lt);
        slots = slots_part l t low k.slots;
        room = omega (arith, k.room, times_below q 4 (t / 4) lt, slots_four l t low k.slots);
      }

-- the whole sheet
module _ (n : ℕ) (R K : List ℕ) (note : Noted R (2 ^ n) K (n - 3) n 0 0) where
  pub sheet_kind : get_or K 0 0 ≡ colour (tree_of (picture_of n R) n 0 0)
  sheet_kind = noted_own R (2 ^ n) K (n - 3) n 0 0 note ∙ ap colour (sheet_window n R)

  pub sheet_known : (t : ℕ) → n ≤ top_level → t ≡ slots_of (n - 3) → Known n R K n 0 0 0 t
  sheet_known t top e =
      let start : 0 * 2 ^ n * 2 ^ n + 0 * 2 ^ n ≡ 0 = omega arith in
      record { noted = rw start note; slots = e; room = omega (arith, slots_fit (n - 3) (omega arith)) }
