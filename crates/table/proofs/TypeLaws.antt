-- What a type that was read tells of its node: whether it is a fork.
use mathlib.Core.Bool.{true, false}
use mathlib.Core.List.{List}
use mathlib.Core.Path.{◌≡◌, sym, ◌∙◌}
use Prim.Native.Nat.{ℕ}
use borrow.Author.Tests.{eq-eqb, ne_eqb}
use Rattle.quad.specs.Numbers.{fork_type}
use Rattle.table.specs.Table.{node_type, is_fork}

pub told_fork : (T : List ℕ) (s k : ℕ) → k ≡ node_type T s → k ≡ fork_type → is_fork T s ≡ true
told_fork T s k e h = eq-eqb _ _ (sym e ∙ h)

pub told_leaf : (T : List ℕ) (s k : ℕ) → k ≡ node_type T s → (k ≡ fork_type → ⊥) → is_fork T s ≡ false
told_leaf T s k e h = ne_eqb _ _ (λ f. h (e ∙ f))
