-- Pixels and places: a pixel has one leaf, so leaves that begin at one place are one.
use mathlib.Core.Bool.{false}
use mathlib.Core.List.{List}
use mathlib.Core.Path.{◌≡◌, sym, ◌∙◌}
use Prim.Native.Nat.{ℕ, ◌+◌, ◌-◌, ◌*◌, ◌^◌, ◌≤◌, ◌<◌}
use native.Mathlib.Nat.{pow-le-pow_right}
use native.Mathlib.Omega.{arith}
use lib.Pow.{pow_pos}
use borrow.Author.Tests.{ne_eqb}
use Rattle.quad.specs.Numbers.{black, fork_type, top_level}
use Rattle.table.specs.Table.{nodes, node_type, is_fork}
use Rattle.table.specs.Rules.{Accepted}
use Rattle.table.specs.Nodes.{left_of, top_of, side_of, level_of}
use Rattle.neighbour.specs.Containing.{Contains}
use Rattle.neighbour.proofs.PixelLaws.{contains_covers, covers_contains}
use Rattle.neighbour.proofs.SideLaws.{on_sheet, leaf_holds}
use Rattle.ponds.specs.Chain.{Water}
use Rattle.ponds_sets.specs.Sets.{place_of}
use Rattle.ponds_sets.specs.Lines.{Has, across}

-- a black node is a leaf
pub black_leaf : (T : List ℕ) (p : ℕ) → node_type T p ≡ black → is_fork T p ≡ false
black_leaf T p e = ne_eqb (node_type T p) fork_type (λ f. omega arith)

module _ {n : ℕ} {T : List ℕ} where
  pub has_contains : {m x y : ℕ} → Has n T m x y → Contains n T m n x y
  has_contains {m} {x} {y} h =
      let z : n - n ≡ 0 = omega arith in
      covers_contains n T m n x y (omega arith) h.node
      (record {
        west = rw z (omega (arith, h.west));
        east = rw z (omega (arith, h.east));
        north = rw z (omega (arith, h.north));
        south = rw z (omega (arith, h.south));
      })

  pub contains_has : {m x y : ℕ} → Contains n T m n x y → Has n T m x y
  contains_has {m} {x} {y} c =
      let z : n - n ≡ 0 = omega arith in
      let k = contains_covers n T m n x y (omega arith) c in
      let w : left_of n T m ≤ x * 2 ^ 0 = rw z at k.west in
      let e : (x + 1) * 2 ^ 0 ≤ left_of n T m + side_of n T m = rw z at k.east in
      let o : top_of n T m ≤ y * 2 ^ 0 = rw z at k.north in
      let s : (y + 1) * 2 ^ 0 ≤ top_of n T m + side_of n T m = rw z at k.south in
      record { node = c.node; west = omega arith; east = omega arith; north = omega arith; south = omega arith }

  pub has_moved : {m u v s t : ℕ} → s ≡ u → t ≡ v → Has n T m u v → Has n T m s t
  has_moved a b h = record {
    node = h.node;
    west = omega (arith, a, h.west);
    east = omega (arith, a, h.east);
    north = omega (arith, b, h.north);
    south = omega (arith, b, h.south);
  }

  -- the top left pixel of a node is one of its own
  pub own_pixel : (m : ℕ) → m < nodes T → Has n T m (left_of n T m) (top_of n T m)
  own_pixel m lt =
      let s : 0 < 2 ^ level_of n T m = pow_pos (level_of n T m) in
      record { node = lt; west = omega arith; east = omega arith; north = omega arith; south = omega arith }

  module _ (acc : Accepted n T) where
    pub one_leaf : {p q x y : ℕ} → Water T p → Water T q → Has n T p x y → Has n T q x y → p ≡ q
    one_leaf {p} {q} {x} {y} wp wq hp hq =
        sym (leaf_holds n T acc p n x y (has_contains hp) (black_leaf T p wp.wet))
        ∙ leaf_holds n T acc q n x y (has_contains hq) (black_leaf T q wq.wet)

    -- a pixel lies on the sheet
    pub has_across : {m x y : ℕ} → Has n T m x y → (x < across) × (y < across)
    has_across {m} {x} {y} h =
        let o = on_sheet n T acc m n x y (has_contains h) in
        let w : 2 ^ n ≤ 2 ^ top_level = pow-le-pow_right {n = 2} (omega arith) {i = n} {j = top_level} acc.sized.level in
        (omega (arith, o.0, w), omega (arith, o.1, w))

    -- two black leaves that begin at one place
    pub place_one : {p q : ℕ} → Water T p → Water T q → place_of n T p ≡ place_of n T q → p ≡ q
    unfolding place_of
    place_one {p} {q} wp wq e =
        let hp = own_pixel p wp.node in
        let hq = own_pixel q wq.node in
        let ep : left_of n T p ≡ left_of n T q = omega (arith, e, (has_across hp).0, (has_across hq).0) in
        let et : top_of n T p ≡ top_of n T q = omega (arith, e, (has_across hp).0, (has_across hq).0) in
        one_leaf wp wq hp (rw (ep, et) hq)
