-- A place that passed the tests: what the six tests of `bad_place` say where they are passed.
use mathlib.Core.Path.{◌≡◌, refl, sym, ◌∙◌}
use mathlib.Core.Bool.{Bool, true, false, not, ◌||◌, true≢false}
use mathlib.Core.List.{List}
use Prim.Native.Nat.{ℕ, ◌%◌, ◌^◌, ◌≤◌, ◌<◌}
use native.Mathlib.Omega.{arith}
use lib.Dec.{ltb, leb, eqb}
use borrow.Author.Tests.{ltb-false, leb-false}
use Rattle.quad.specs.Numbers.{top_level}
use Rattle.table.specs.Table.{nodes}
use Rattle.table.specs.Rules.{Sized}
use Rattle.walk.specs.declared.Place.{Place}
use Rattle.walk.specs.Walk.{bad_place}
use Rattle.walk.specs.Good.{Good}

-- an 'or' that fails, fails in both
pub neither : (a b : Bool) → a || b ≡ false → (a ≡ false) × (b ≡ false)
neither false b e = (refl, e)
neither true b e = absurd (true≢false e)

-- what passing them says
module _ (T : List ℕ) (p : Place) (z : Sized p.n T) (count : ℕ) (bad : Bool) (c : count ≡ nodes T) (b : bad ≡ bad_place count p) (ok : bad ≡ false) where
  not_bad : bad_place (nodes T) p ≡ false
  not_bad = rw c at (sym b ∙ ok)

  pub good : Good T p
  unfolding bad_place
  good =
      let t₁ = neither (ltb p.n p.level) _ not_bad in
      let t₂ = neither (leb (nodes T) p.node) _ t₁.1 in
      let t₃ = neither (ltb (2 ^ p.n) p.x) _ t₂.1 in
      let t₄ = neither (ltb (2 ^ p.n) p.y) _ t₃.1 in
      let t₅ = neither (not (eqb (p.left % 2 ^ p.level) 0)) _ t₄.1 in
      record {
        sized = z;
        deep = ltb-false _ _ t₁.0;
        here = leb-false _ _ t₂.0;
        rows = ltb-false _ _ t₄.0;
        room = ltb-false _ _ t₅.1;
      }

  pub level_small : p.level ≤ top_level
  level_small = let g = good in omega (arith, g.deep, g.sized.level)

  pub row_in : (whole : ℕ) → whole ≡ 2 ^ p.n → (p.y ≡ whole → ⊥) → p.y < 2 ^ p.n
  row_in whole w ne = let g = good in omega (arith, g.rows)
