-- There are never more ponds than black leaves: each number is some black leaf's, and no leaf has two.
use mathlib.Core.List.{List}
use Prim.Native.Nat.{ℕ, ◌+◌, ◌-◌, ◌≤◌}
use native.Mathlib.Omega.{arith}
use lib.Dec.{eqb}
use borrow.Author.Tests.{eq-eqb}
use Rattle.base.proofs.SumLaws.{no_more_than}
use Rattle.quad.specs.Numbers.{black}
use Rattle.table.specs.Table.{nodes, node_type}
use Rattle.ponds.specs.Words.{word_of}
use Rattle.ponds.specs.Numbered.{Numbered}
use Rattle.ponds.specs.Calls.{black_leaves}

pub few_ponds : (n : ℕ) (T numbers : List ℕ) (count : ℕ) → Numbered n T numbers count → count ≤ black_leaves T
unfolding black_leaves
few_ponds n T numbers count h =
    no_more_than (λ p. word_of numbers p - 1) (λ p. eqb (node_type T p) black) (nodes T) count (λ a l.
    let p = h.all (a + 1) (omega arith) (omega arith) in
    (p.0, p.1.node, eq-eqb (node_type T p.0) black p.1.wet, omega (arith, p.2)))
