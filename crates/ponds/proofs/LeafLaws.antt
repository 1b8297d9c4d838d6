-- The leaf of a pixel by rows: each pixel has one, each leaf has a pixel, and along a row the pixels of a leaf's block
-- have that leaf.
use mathlib.Core.Bool.{false}
use mathlib.Core.List.{List}
use mathlib.Core.Path.{◌≡◌, sym}
use Prim.Native.Nat.{ℕ, ◌+◌, ◌*◌, ◌/◌, ◌%◌, ◌^◌, ◌<◌}
use native.Mathlib.Omega.{arith}
use lib.Arith.{digits_lt}
use lib.Pow.{pow_pos, high, low}
use borrow.Author.Tests.{ne_eqb}
use Rattle.base.proofs.PowLaws.{pow_product}
use Rattle.quad.specs.Numbers.{black, fork_type}
use Rattle.quad.specs.Block.{path_of, column, row}
use Rattle.quad.proofs.PathLaws.{path_quadrants}
use Rattle.table.specs.Table.{nodes, node_type, is_fork}
use Rattle.table.specs.Rules.{depth_to, Accepted, AtLevel}
use Rattle.table.specs.Nodes.{path_to, level_of, side_of, left_of}
use Rattle.table.proofs.AcceptedLaws.{depth_le, level_is}
use Rattle.table.proofs.HolderLaws.{held}
use Rattle.table.proofs.BlockLaws.{column_below}
use Rattle.ponds.specs.Entries.{leaf_at}
use Rattle.ponds.proofs.LeafPixels.{leaf_holds, inside}

-- a black node is a leaf
pub black_leaf : (T : List ℕ) (p : ℕ) → node_type T p ≡ black → is_fork T p ≡ false
black_leaf T p e = ne_eqb (node_type T p) fork_type (λ f. omega arith)

module _ (n : ℕ) (T : List ℕ) (acc : Accepted n T) where
  pub leaf_node : (i : ℕ) → leaf_at n T i < nodes T
  unfolding leaf_at
  leaf_node i = (held n T acc (path_of n (i % 2 ^ n) (i / 2 ^ n)) (path_quadrants n (i % 2 ^ n) (i / 2 ^ n))).below

  -- the pixel in row y and column c * 2 ^ l + j of leaf p's block, whose column is c
  pub leaf_along : (p l y j : ℕ) → AtLevel n T p l → is_fork T p ≡ false → y / 2 ^ l ≡ row (path_to T n p) → j < 2 ^ l
      → leaf_at n T (y * 2 ^ n + (left_of n T p + j)) ≡ p
  unfolding leaf_at
  leaf_along p l y j at f hy hj =
      let x : ℕ = left_of n T p + j in
      let e : l ≡ level_of n T p = level_is at in
      let lj : j < side_of n T p = rw e at hj in
      let wide : 2 ^ n ≡ 2 ^ depth_to T n p * side_of n T p = pow_product (depth_to T n p) (level_of n T p) n (omega (arith, depth_le T n p)) in
      let hx : x < 2 ^ n = rw wide (digits_lt (column_below n T acc p at.node) lj) in
      rw (low y n hx, high y n hx)
      (leaf_holds n T acc x y p (record {
        below = at.node;
        leaf = f;
        across = sym (high (column (path_to T n p)) (level_of n T p) lj);
        down = sym (rw e at hy);
      }))

  -- the leaf has a pixel: the one at its top left
  pub leaf_pixel : (p : ℕ) → p < nodes T → is_fork T p ≡ false → (i : ℕ) × (i < 4 ^ n) × (leaf_at n T i ≡ p)
  leaf_pixel p lt f = let i = inside n T acc p lt f 0 (pow_pos (level_of n T p)) in (i.at, i.below, i.owned)
