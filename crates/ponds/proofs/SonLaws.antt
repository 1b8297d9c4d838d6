-- Where the block of a fork's son begins, in pixels.
use mathlib.Core.Bool.{true}
use mathlib.Core.List.{List}
use mathlib.Core.Path.{◌≡◌, ◌∙◌}
use Prim.Native.Nat.{ℕ, ◌+◌, ◌-◌, ◌*◌, ◌/◌, ◌%◌, ◌<◌}
use native.Mathlib.Omega.{arith}
use Rattle.base.proofs.PowLaws.{halved, pow_less}
use Rattle.quad.specs.Block.{column, row}
use Rattle.table.specs.Table.{nodes, son, is_fork}
use Rattle.table.specs.Rules.{depth_to, Accepted}
use Rattle.table.specs.Nodes.{path_to, level_of, side_of, left_of, top_of}
use Rattle.table.proofs.AcceptedLaws.{fork_deep, depth_son}
use Rattle.table.proofs.HolderLaws.{path_son}

module _ {n : ℕ} {T : List ℕ} {m : ℕ} (acc : Accepted n T) (lm : m < nodes T) (fk : is_fork T m ≡ true) where
  pub son_side : (q : ℕ) → q < 4 → side_of n T m ≡ 2 * side_of n T (son T m q)
  son_side q q4 =
      let d = depth_son n T acc m q lm fk q4 in
      let e : n - depth_to T n m - 1 ≡ level_of n T (son T m q) = omega arith in
      pow_less 2 (level_of n T m) (omega (arith, fork_deep n T acc m lm fk)) ∙ rw e

  pub son_left : (q : ℕ) → q < 4 → left_of n T (son T m q) ≡ left_of n T m + q % 2 * side_of n T (son T m q)
  unfolding column
  son_left q q4 = rw (path_son n T acc m q lm fk q4, son_side q q4) (halved (q % 2) (column (path_to T n m)) (side_of n T (son T m q)))

  pub son_top : (q : ℕ) → q < 4 → top_of n T (son T m q) ≡ top_of n T m + q / 2 * side_of n T (son T m q)
  unfolding row
  son_top q q4 = rw (path_son n T acc m q lm fk q4, son_side q q4) (halved (q / 2) (row (path_to T n m)) (side_of n T (son T m q)))
