-- The centre's call, return by return: the middle of the block that the climb found, the refusals in their order, and
-- the two numbers written.
use Rattle.std.specs.Prelude.{Ok, Err}
use mathlib.Core.List.{List, [], ◌∷◌}
use mathlib.Core.Path.{◌≡◌, refl, ◌∙◌}
use Prim.Native.Nat.{ℕ, ◌≤◌, ◌<◌, ◌^◌}
use native.Mathlib.Omega.{arith}
use lib.Ieee.{Float}
use lib.ListN.{length, set}
use borrow.Author.Tests.{lt-ltb, le-ltb}
use Rattle.base.specs.Tab.{overlay}
use Rattle.answer.specs.declared.Refusal.TheVariants.{NoRoom}
use Rattle.answer.specs.Numbers.{Outcome, and_then, room}
use Rattle.answer.proofs.OutcomeLaws.{refusal_refuses, given_back}
use Rattle.std.specs.Result.{IsErr, IsErrAnd}
use Rattle.answer.specs.declared.Refusal.{Refusal}
use Rattle.quad.specs.Numbers.{top_level}
use Rattle.table.specs.Rules.{asked_of, Asked}
use Rattle.table.specs.declared.Block.{Block}
use Rattle.table.specs.Blocks.{block_of}
use Rattle.table.proofs.BlockLaws.{on_sheet}
use Rattle.ground.specs.declared.Ground.{Ground}
use Rattle.ground.specs.declared.Middle.{Middle}
use Rattle.ground.specs.Ground.{range_of, east_of, north_of, centre_of, centre_after}
use Rattle.ground_centre.specs.HalfPixels.{half_pixels, middle_of}
use Rattle.ground.specs.Call.{Centres}

-- an index of a node's block and its level, as `half_pixels` takes them
module _ {n : ℕ} {T : List ℕ} {p : ℕ} (a : Asked n T p) {b : Block} (e : b ≡ block_of n T p) where
  pub across_fits : (b.level ≤ top_level) × (b.column < 2 ^ top_level)
  unfolding block_of
  across_fits = let o = on_sheet a in rw e (o.level, o.column)

  pub down_fits : (b.level ≤ top_level) × (b.row < 2 ^ top_level)
  unfolding block_of
  down_fits = let o = on_sheet a in rw e (o.level, o.row)

pub middle_is : (n : ℕ) (T : List ℕ) (p : ℕ) (b : Block) (h k : ℕ) → b ≡ block_of n T p → h ≡ half_pixels b.column b.level
    → k ≡ half_pixels b.row b.level → ◌≡◌ {A = Middle} (record { h = h; k = k }) (middle_of n T p)
unfolding block_of middle_of
middle_is n T p b h k e eh ek = rw (middle_of, eh, ek, e)

-- two numbers stored at the start
pub two_stored : (x y : Float) (old : List Float) → 2 ≤ length old → set (set old 0 x) 1 y ≡ overlay (x ∷ y ∷ []) old
two_stored x y [] h = absurd (omega arith)
two_stored x y (a ∷ []) h = absurd (omega arith)
two_stored x y (a ∷ b ∷ more) h = refl

module _ (n : ℕ) (T : List ℕ) (p : ℕ) (g : Ground) (old : List Float) where
  -- a refusal leaves the slice alone
  refuses : (e : Refusal) → Err e ≡ centre_of n T p g (length old) → Centres n T p g old (Err e) old
  unfolding centre_after
  refuses e h = record { gives = h; leaves = rw (centre_after, ← h, refusal_refuses e) }

  refused : (r : Outcome) (e : Refusal) → IsErr r × IsErrAnd r (λ x. x ≡ e) → Err e ≡ centre_of n T p g (length old) → Centres n T p g old r old
  refused r e given h = rw (given_back r e given) (refuses e h)

  pub centre_asked : (r : Outcome) (e : Refusal) → IsErr r × IsErrAnd r (λ x. x ≡ e) → Err e ≡ asked_of n T p → Centres n T p g old r old
  unfolding centre_of
  centre_asked r e given h = refused r e given (rw (centre_of, ← h, refusal_refuses e))

  module _ (a : ℕ) (ea : Ok a ≡ asked_of n T p) where
    pub centre_range : (r : Outcome) (e : Refusal) → IsErr r × IsErrAnd r (λ x. x ≡ e) → Err e ≡ range_of g → Centres n T p g old r old
    unfolding centre_of
    centre_range r e given h = refused r e given (rw (centre_of, ← ea, ← h, refusal_refuses e))

    module _ (b : ℕ) (eb : Ok b ≡ range_of g) where
      passed : (r : Outcome) → r ≡ and_then (room 2 (length old)) (Ok 0) → r ≡ centre_of n T p g (length old)
      unfolding centre_of
      passed r e = rw (centre_of, ← ea, ← eb) e

      pub centre_room : length old < 2 → Centres n T p g old (Err (NoRoom 2)) old
      centre_room h = refuses (NoRoom 2) (passed (Err (NoRoom 2)) (rw (lt-ltb (length old) 2 h)))

      pub centre_put : (m : Middle) (x y : Float) → 2 ≤ length old → m ≡ middle_of n T p → x ≡ east_of g m.h → y ≡ north_of g m.k
          → Centres n T p g old (Ok 0) (set (set old 0 x) 1 y)
      unfolding middle_of centre_after
      centre_put m x y l em ex ey =
          let e : Ok 0 ≡ centre_of n T p g (length old) = passed (Ok 0) (rw (le-ltb (length old) 2 l)) in
          record { gives = e; leaves = two_stored x y old l ∙ rw (centre_after, ← e, ex, ey, em) }
