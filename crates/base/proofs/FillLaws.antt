-- A buffer that is filled with a function's values from its start on: one value more, and at last all of them.
use mathlib.Core.List.{List, []}
use mathlib.Core.Path.{◌≡◌, refl, ap, sym, ◌∙◌}
use Prim.Native.Nat.{ℕ, ◌+◌, ◌≤◌, ◌<◌}
use native.Mathlib.Nat.{zero-add}
use native.Mathlib.Numerals.{add-one}
use native.Mathlib.Omega.{arith}
use lib.ListN.{length, take, set}
use lib.Seq.{take-suc-set, take_all}
use Rattle.base.specs.Tab.{tab, tab_from}
use Rattle.base.proofs.TabLaws.{tab_last}

module _ (f : ℕ → ℕ) where
  pub filled_none : [] ≡ tab f 0
  unfolding tab_from
  filled_none = refl

  pub filled_more : (out : List ℕ) (i v : ℕ) → i < length out → v ≡ f i → take i out ≡ tab f i → take (i + 1) (set out i v) ≡ tab f (i + 1)
  filled_more out i v h e inv =
      let z : 0 + i ≡ i = zero-add i in
      rw (add-one i, take-suc-set out i v h, inv, tab_last f i 0, z, e)

  pub filled_all : (out : List ℕ) (i k : ℕ) → length out ≡ k → k ≤ i → i ≤ k → take i out ≡ tab f i → out ≡ tab f k
  filled_all out i k e h l inv = sym (take_all i out (omega arith)) ∙ inv ∙ ap (tab f) (omega arith)
