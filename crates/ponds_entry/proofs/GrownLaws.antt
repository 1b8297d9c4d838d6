-- An entry that grows by a block: its numbers fit a word, since the block lies on a sheet, and are those of `grown_of`.
use mathlib.Core.Path.{◌≡◌}
use Prim.Native.Nat.{ℕ, ◌+◌, ◌-◌, ◌*◌, ◌^◌, ◌≤◌, ◌<◌, min, max}
use native.Mathlib.Nat.{mul-le-mul}
use native.Mathlib.Omega.{arith}
use lib.Pow.{pow_pos, pow_mono}
use mir.Syntax.{w32}
use mir.Val.{Fits}
use Rattle.quad.specs.Numbers.{top_level, none}
use Rattle.table.specs.declared.Block.{Block}
use Rattle.ponds.specs.declared.Pond.{Pond}
use Rattle.ponds_entry.specs.Gathered.{grown_of}

module _ (level side : ℕ) (top : level ≤ top_level) (e : side ≡ 2 ^ level) where
  pub side_some : 1 ≤ side
  side_some = omega (arith, pow_pos level)

  -- a side so many times, up to the highest side
  times_small : (k : ℕ) → k ≤ 2 ^ top_level → k * side ≤ 2 ^ top_level * 2 ^ top_level
  times_small k h = mul-le-mul {n₂ = 2 ^ top_level} {m₂ = 2 ^ top_level} h (rw e (pow_mono {j = top_level} top))

  pub first_fits : (k : ℕ) → k < 2 ^ top_level → Fits w32 (k * side)
  first_fits k h = omega (arith, times_small k (omega arith))

  pub last_fits : (k j : ℕ) → k < 2 ^ top_level → Fits w32 (k * side + (side - j))
  last_fits k j h = omega (arith, times_small k (omega arith), times_small 1 (omega arith))

  pub square_small : side * side ≤ 2 ^ top_level * 2 ^ top_level
  square_small = times_small side (rw e (pow_mono {j = top_level} top))

  pub square_fits : Fits w32 (side * side)
  square_fits = omega (arith, square_small)

  pub count_fits : (k : ℕ) → k + 2 ^ top_level * 2 ^ top_level ≤ none → Fits w32 (k + side * side)
  count_fits k h = omega (arith, square_small)

pub ruleset fits = (side_some, first_fits, last_fits, square_fits, count_fits)

pub grown_is : (e : Pond) (b : Block) (side top bottom left right : ℕ) → side ≡ 2 ^ b.level
    → top ≡ min e.top (b.row * side) → bottom ≡ max e.bottom (b.row * side + (side - 1))
    → left ≡ min e.left (b.column * side) → right ≡ max e.right (b.column * side + (side - 1))
    → ◌≡◌ {A = Pond} (record { pixels = e.pixels + side * side; top = top; bottom = bottom; left = left; right = right }) (grown_of e b)
unfolding grown_of
grown_is e b side top bottom left right s t b' l r = rw (t, b', l, r, s)
