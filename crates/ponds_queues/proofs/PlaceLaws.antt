-- Where blocks begin: a node's on the sheet, a son's within its father's, and a leaf that begins in a leaf's block is
-- that leaf, since both hold the pixel there.
use mathlib.Core.Bool.{true, false}
use mathlib.Core.List.{List}
use mathlib.Core.Path.{◌≡◌, ap, sym, ◌∙◌}
use Prim.Native.Nat.{ℕ, ◌+◌, ◌-◌, ◌*◌, ◌/◌, ◌%◌, ◌^◌, ◌≤◌, ◌<◌}
use native.Mathlib.Omega.{arith}
use lib.Arith.{digits_lt}
use lib.Pow.{pow_pos, pow_mono, high}
use borrow.Author.Tests.{ne_eqb}
use Rattle.base.proofs.PowLaws.{pow_product}
use Rattle.quad.specs.Numbers.{black, fork_type, top_level}
use Rattle.quad.specs.Block.{path_of, column, row}
use Rattle.table.specs.Table.{nodes, son, node_type, is_fork}
use Rattle.table.specs.Rules.{depth_to, Accepted, AtLevel}
use Rattle.table.specs.Nodes.{path_to, holder, level_of, left_of, top_of}
use Rattle.table.proofs.AcceptedLaws.{depth_le, level_is, son_at}
use Rattle.table.proofs.HolderLaws.{within_leaf}
use Rattle.table.proofs.BlockLaws.{column_below, row_below}
use Rattle.ponds.specs.Chain.{Water}
use Rattle.ponds.proofs.SonLaws.{son_left as left-of-son, son_top as top-of-son}
use Rattle.ponds_sets.specs.Sets.{place_of, Begins}

-- a black node is a leaf
pub water_leaf : (T : List ℕ) (p : ℕ) → node_type T p ≡ black → is_fork T p ≡ false
water_leaf T p e = ne_eqb (node_type T p) fork_type (λ f. omega arith)

-- stretches of h places: the next begins where one ends
pub apart : (a b h : ℕ) → 0 < h → a < b → a * h + h ≤ b * h
apart a b h pos lt =
    let l : h - 1 < h = omega arith in
    omega (arith, digits_lt {q = a} {m = b} {r = h - 1} {c = h} lt l)

within : (c k x : ℕ) → c * 2 ^ k ≤ x → x < c * 2 ^ k + 2 ^ k → x / 2 ^ k ≡ c
within c k x le lt =
    let e : x ≡ c * 2 ^ k + (x - c * 2 ^ k) = omega arith in
    let l : x - c * 2 ^ k < 2 ^ k = omega arith in
    ap (λ (j : ℕ). j / 2 ^ k) e ∙ high c k l

module _ (n : ℕ) (T : List ℕ) (acc : Accepted n T) (i : ℕ) (lt : i < nodes T) where
  wide : 2 ^ n ≡ 2 ^ depth_to T n i * 2 ^ level_of n T i
  wide = pow_product (depth_to T n i) (level_of n T i) n (omega (arith, depth_le T n i))

  pub left_on : left_of n T i < 2 ^ n
  left_on = omega (arith, wide, digits_lt (column_below n T acc i lt) (pow_pos (level_of n T i)))

  pub top_on : top_of n T i < 2 ^ n
  top_on = omega (arith, wide, digits_lt (row_below n T acc i lt) (pow_pos (level_of n T i)))

  most : 2 ^ n ≤ 2 ^ top_level
  most = pow_mono {i = n} {j = top_level} acc.sized.level

  pub left_top : left_of n T i < 2 ^ top_level
  left_top = omega (arith, left_on, most)

  pub top_top : top_of n T i < 2 ^ top_level
  top_top = omega (arith, top_on, most)

module _ {n : ℕ} {T : List ℕ} {p l : ℕ} (h : AtLevel n T p l) where
  -- where son q of a fork begins
  module _ (f : is_fork T p ≡ true) (q : ℕ) (q4 : q < 4) where
    below : level_of n T (son T p q) ≡ l - 1
    below = sym (level_is (son_at h f q q4))

    pub son_left : left_of n T (son T p q) ≡ left_of n T p + q % 2 * 2 ^ (l - 1)
    son_left = rw below (rw below at (left-of-son h.accepted h.node f q q4))

    pub son_top : top_of n T (son T p q) ≡ top_of n T p + q / 2 * 2 ^ (l - 1)
    son_top = rw below (rw below at (top-of-son h.accepted h.node f q q4))

  -- a leaf that begins in a leaf's block
  pub leaf_only : is_fork T p ≡ false → (i : ℕ) → i < nodes T → is_fork T i ≡ false → Begins n T i (left_of n T p) (top_of n T p) l → i ≡ p
  leaf_only f i lt g b =
      let acc = h.accepted in
      let e = level_is h in
      let x : ℕ = left_of n T i in
      let y : ℕ = top_of n T i in
      let pos = pow_pos (level_of n T i) in
      let east : x < left_of n T p + 2 ^ level_of n T p = rw e at b.east in
      let south : y < top_of n T p + 2 ^ level_of n T p = rw e at b.south in
      let own : holder T (path_of n x y) ≡ i =
      within_leaf n T acc i n x y lt g (depth_le T n i)
      (within (column (path_to T n i)) (level_of n T i) x (omega arith) (omega arith))
      (within (row (path_to T n i)) (level_of n T i) y (omega arith) (omega arith)) in
      let its : holder T (path_of n x y) ≡ p =
      within_leaf n T acc p n x y h.node f (depth_le T n p)
      (within (column (path_to T n p)) (level_of n T p) x b.west east)
      (within (row (path_to T n p)) (level_of n T p) y b.north south) in
      sym own ∙ its

-- a block begins in itself
pub begins_own : {n : ℕ} {T : List ℕ} (p l : ℕ) → Begins n T p (left_of n T p) (top_of n T p) l
begins_own p l = record {
  west = omega arith;
  east = omega (arith, pow_pos l);
  north = omega arith;
  south = omega (arith, pow_pos l);
}

-- two leaves that begin at one place are one
pub place_only : {n : ℕ} {T : List ℕ} {p q : ℕ} → Accepted n T → Water T p → Water T q → place_of n T p ≡ place_of n T q → p ≡ q
unfolding place_of
place_only {n} {T} {p} {q} acc wp wq e =
    let xp = left_top n T acc p wp.node in
    let xq = left_top n T acc q wq.node in
    let pos = pow_pos (level_of n T q) in
    let at : AtLevel n T q (level_of n T q) = record { accepted = acc; node = wq.node; level = omega (arith, depth_le T n q) } in
    leaf_only at (water_leaf T q wq.wet) p wp.node (water_leaf T p wp.wet)
    (record { west = omega arith; east = omega arith; north = omega arith; south = omega arith })
