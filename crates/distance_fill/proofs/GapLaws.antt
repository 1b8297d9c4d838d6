-- Blocks and gaps along one axis, from the centre of block X of level l: a pixel one block on is a side and twice its
-- offset away, a pixel of the same column of blocks at most a side, and any other at least three sides. So the pixels
-- of a neighbour are as far as their offsets say.
use mathlib.Core.Logic.{◌⊎◌, inl, inr}
use mathlib.Core.Path.{◌≡◌, refl, ap, sym, ◌∙◌}
use Prim.Native.Nat.{ℕ, zero, suc, ◌+◌, ◌*◌, ◌/◌, ◌^◌, ◌≤◌, ◌<◌, max}
use native.Mathlib.Nat.{add-mul, mul-le-mul_right, mod-lt, div-add-mod', le_trans, le-max_left, le-max_right}
use native.Mathlib.Omega.{arith}
use lib.Pow.{pow_pos}
use Rattle.distance.specs.Distance.{gap, to_pixel}
use Rattle.distance_seek.proofs.OffsetLaws.{pixel_offset}

-- the centre of block X of level l along an axis, in half pixels
abbrev pub centre : ℕ → ℕ → ℕ
centre l X = 2 * (X * 2 ^ l) + 2 ^ l

-- along an axis on which the step moves, and on which it stays
pub data Along (step l g o : ℕ) : Type 0 where
  moves : g ≡ 2 ^ l + 2 * o → Along step l g o
  rests : step ≡ 1 → g ≤ 2 ^ l → o ≡ 0 → Along step l g o

pub along : (step l X i : ℕ) → step < 3 → i / 2 ^ l + 1 ≡ X + step → Along step l (gap (centre l X) (2 * i) (2 * i + 2)) (pixel_offset step l i)
unfolding pixel_offset
along zero l X i h e =
    let w : ℕ = 2 ^ l in
    let r = mod-lt i (pow_pos l) in
    let d = div-add-mod' i w in
    let m : X * w ≡ i / w * w + 1 * w = ap (λ (k : ℕ). k * w) (omega (arith, e)) ∙ add-mul (i / w) 1 w in
    moves (omega arith)
along (suc zero) l X i h e =
    let w : ℕ = 2 ^ l in
    let r = mod-lt i (pow_pos l) in
    let d = div-add-mod' i w in
    let m : X * w ≡ i / w * w = ap (λ (k : ℕ). k * w) (omega (arith, e)) in
    rests refl (omega arith) refl
along (suc (suc zero)) l X i h e =
    let w : ℕ = 2 ^ l in
    let r = mod-lt i (pow_pos l) in
    let d = div-add-mod' i w in
    let m : i / w * w ≡ X * w + 1 * w = ap (λ (k : ℕ). k * w) (omega (arith, e)) ∙ add-mul X 1 w in
    moves (omega arith)
along (suc (suc (suc k))) l X i h e = absurd (omega arith)

-- a pixel of a neighbour
pub to_neighbour : (east south l X Y i j : ℕ) → east < 3 → south < 3 → (east ≡ 1 → south ≡ 1 → ⊥) → i / 2 ^ l + 1 ≡ X + east → j / 2 ^ l + 1 ≡ Y + south
    → to_pixel (centre l X) (centre l Y) i j ≡ 2 ^ l + 2 * max (pixel_offset east l i) (pixel_offset south l j)
to_neighbour east south l X Y i j he hs apart ex ey = go (along east l X i he ex) (along south l Y j hs ey)
  where
    go : {g g' o o' : ℕ} → Along east l g o → Along south l g' o' → max g g' ≡ 2 ^ l + 2 * max o o'
    go (moves e) (moves e') = omega arith
    go (moves e) (rests s le z) = omega arith
    go (rests s le z) (moves e') = omega arith
    go (rests s le z) (rests s' le' z') = absurd (apart s s')

-- two or more blocks on or back
abbrev pub Apart : ℕ → ℕ → Type 0
Apart X B = (X + 2 ≤ B) ⊎ (B + 2 ≤ X)

far_off : (l X i : ℕ) → Apart X (i / 2 ^ l) → 3 * 2 ^ l ≤ gap (centre l X) (2 * i) (2 * i + 2)
far_off l X i (inl h) =
    let w : ℕ = 2 ^ l in
    let d = div-add-mod' i w in
    let m : X * w + 2 * w ≤ i / w * w = rw (sym (add-mul X 2 w)) (mul-le-mul_right w h) in
    omega arith
far_off l X i (inr h) =
    let w : ℕ = 2 ^ l in
    let r = mod-lt i (pow_pos l) in
    let d = div-add-mod' i w in
    let m : i / w * w + 2 * w ≤ X * w = rw (sym (add-mul (i / w) 2 w)) (mul-le-mul_right w h) in
    omega arith

pub far_across : (l X Y i j : ℕ) → Apart X (i / 2 ^ l) → 3 * 2 ^ l ≤ to_pixel (centre l X) (centre l Y) i j
far_across l X Y i j h = le_trans (far_off l X i h) (le-max_left _ _)

pub far_down : (l X Y i j : ℕ) → Apart Y (j / 2 ^ l) → 3 * 2 ^ l ≤ to_pixel (centre l X) (centre l Y) i j
far_down l X Y i j h = le_trans (far_off l Y j h) (le-max_right _ _)
