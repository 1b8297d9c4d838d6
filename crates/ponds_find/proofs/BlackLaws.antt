-- The black leaves are counted node by node; the register has room for as many.
use Rattle.std.specs.Prelude.{Ok, Err}
use mathlib.Core.List.{List}
use mathlib.Core.Path.{◌≡◌, refl}
use Prim.Native.Nat.{ℕ, suc, ◌+◌, ◌*◌, ◌≤◌, ◌<◌}
use native.Mathlib.Nat.{le_trans, mul-le-mul, mul-le-mul_left}
use native.Mathlib.Omega.{arith}
use lib.Dec.{eqb}
use borrow.Author.Tests.{lt-ltb, le-ltb}
use Rattle.base.specs.Tab.{sum}
use Rattle.base.proofs.CaseLaws.{cond_case}
use Rattle.answer.specs.declared.Refusal.TheVariants.{NoRoom}
use Rattle.answer.specs.Numbers.{room}
use Rattle.quad.specs.Numbers.{black}
use Rattle.table.specs.Table.{nodes, node_type}
use Rattle.table.specs.Rules.{one}
use Rattle.ponds.specs.Calls.{black_leaves}
use Rattle.ponds_find.specs.Finding.{most_black}

-- among the first p nodes
abbrev pub black_to : List ℕ → ℕ → ℕ
black_to T p = sum (λ q. one (eqb (node_type T q) black)) p

pub black_none : (T : List ℕ) → 0 ≡ black_to T 0
unfolding sum
black_none T = refl

-- one node more
next : (f : ℕ → ℕ) (p : ℕ) → sum f (suc p) ≡ f p + sum f p
unfolding sum
next f p = refl

pub black_more : (T : List ℕ) (p b count : ℕ) → count ≡ black_to T p → b ≡ one (eqb (node_type T p) black) → count + b ≡ black_to T (p + 1)
black_more T p b count e h =
    let s : p + 1 ≡ suc p = omega arith in
    rw s (omega (arith, next (λ q. one (eqb (node_type T q) black)) p, e, h))

pub black_one : (T : List ℕ) (p b : ℕ) → b ≡ one (eqb (node_type T p) black) → b ≤ 1
black_one T p b h = rw h (cond_case (λ (k : ℕ). k ≤ 1) (eqb (node_type T p) black) 1 0 (λ e. omega arith) (λ e. omega arith))

pub black_all : (T : List ℕ) (all p count : ℕ) → all ≡ nodes T → all ≤ p → p ≤ nodes T → count ≡ black_to T p → count ≡ black_leaves T
unfolding black_leaves
black_all T all p count e low high h = let at : p ≡ nodes T = omega arith in rw at at h

-- what they need of a register is small
pub need_few : (T : List ℕ) (wide count : ℕ) → black_leaves T ≤ most_black → wide ≤ 5 → count ≡ black_leaves T → wide * count ≤ 5 * most_black
need_few T wide count most w e = mul-le-mul {n₂ = 5} {m₂ = most_black} w (rw e most)

-- the test for room; where there is room for the most that a sheet can have, it passes whatever their count
module _ (T : List ℕ) (wide have : ℕ) where
  pub room_for_most : black_leaves T ≤ most_black → wide * most_black ≤ have → Ok 0 ≡ room (wide * black_leaves T) have
  room_for_most most l = rw (le-ltb have (wide * black_leaves T) (le_trans (mul-le-mul_left wide most) l))

  pub no_room : (count : ℕ) → count ≡ black_leaves T → have < wide * count → Err (NoRoom (wide * count)) ≡ room (wide * black_leaves T) have
  no_room count e l = rw (← e, lt-ltb have (wide * count) l)

  pub all_passed : (count : ℕ) → count ≡ black_leaves T → wide * count ≤ have → Ok 0 ≡ room (wide * black_leaves T) have
  all_passed count e l = rw (← e, le-ltb have (wide * count) l)
