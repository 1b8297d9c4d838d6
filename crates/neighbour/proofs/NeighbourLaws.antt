-- What the calls' definitions mean on an accepted sheet: the neighbour is the smallest node that contains the block
-- beside p's own, the corner leaf is the leaf that holds the pixel beyond; each is a node of the table, and the level
-- beside it in the answer is its own.
use Rattle.std.specs.Prelude.{Ok, Err}
use mathlib.Core.Bool.{Bool, true, false, not, cond, ◌&&◌}
use mathlib.Core.List.{List}
use mathlib.Core.Path.{◌≡◌, refl, ap, sym, ◌∙◌}
use Prim.Native.Nat.{ℕ, ◌+◌, ◌-◌, ◌^◌, ◌≤◌, ◌<◌}
use native.Mathlib.Omega.{arith}
use lib.Dec.{ltb}
use lib.ListN.{length}
use borrow.Author.Tests.{le-ltb, ltb-false}
use Rattle.std.proofs.Common.{None}
use Rattle.answer.specs.declared.Refusal.TheVariants.{BadDirection}
use Rattle.answer.specs.Numbers.{node_in, level_in, unless}
use Rattle.answer.proofs.OutcomeLaws.{then_answered, answers_unless}
use Rattle.quad.specs.Block.{path_of, column, row}
use Rattle.quad.specs.Direction.{east_step, south_step, stays, adj_of, diagonal}
use Rattle.table.specs.Table.{nodes, is_fork}
use Rattle.table.specs.Rules.{depth_to, Accepted, Asked, asked_of}
use Rattle.table.specs.Nodes.{path_to, holder, level_of}
use Rattle.table.proofs.AcceptedLaws.{fork_deep}
use Rattle.table.proofs.CheckLaws.{asked_of_lem, asked_good}
use Rattle.table.proofs.HolderLaws.{own_depth}
use Rattle.neighbour.specs.Neighbour.{held_at, beside, neighbour_found, outcome_of, neighbour_of, leaf_beyond, corner_column, corner_row, corner_leaf_of, diagonal_leaf_of, At}
use Rattle.neighbour.specs.Containing.{Contains, Smallest}
use Rattle.neighbour.proofs.AtLaws.{one_node, one_level}
use Rattle.neighbour.proofs.SearchLaws.{Stays, stays_of, stays_both}
use Rattle.neighbour.proofs.SmallestLaws.{holder_contains, holder_smallest, fork_size}
use Rattle.neighbour.proofs.FoundLaws.{found_facts, answered_apart}

-- what was found beside a block: that block stays on the sheet, the node is its holder, and the level the node's
pub record Lies (n : ℕ) (T : List ℕ) (d x y D m l : ℕ) : Type 0 where
  pub across : Stays d x (east_step D)
  pub down : Stays d y (south_step D)
  pub node : m ≡ holder T (path_of d (x + east_step D - 1) (y + south_step D - 1))
  pub level : l ≡ level_of n T m

pub lies : (n : ℕ) (T : List ℕ) (d x y D m l : ℕ) → beside n T d x y D ≡ At m l → Lies n T d x y D m l
unfolding beside
lies n T d x y D m l e =
    go (stays (2 ^ d) x (east_step D)) (stays (2 ^ d) y (south_step D)) refl refl e
  where
    go : (a b : Bool) → stays (2 ^ d) x (east_step D) ≡ a → stays (2 ^ d) y (south_step D) ≡ b
        → cond (a && b) (held_at n T (path_of d (x + east_step D - 1) (y + south_step D - 1))) None ≡ At m l → Lies n T d x y D m l
    go true true p q e =
        let em : holder T (path_of d (x + east_step D - 1) (y + south_step D - 1)) ≡ m = one_node e in
        let el : level_of n T (holder T (path_of d (x + east_step D - 1) (y + south_step D - 1))) ≡ l = one_level e in
        record { across = stays_of d x (east_step D) p; down = stays_of d y (south_step D) q; node = sym em; level = sym el ∙ ap (level_of n T) em }
    go true false p q e = cc
    go false b p q e = cc

-- and the other way round
pub lies_found : (n : ℕ) (T : List ℕ) (d x y D : ℕ) → Stays d x (east_step D) → Stays d y (south_step D)
    → beside n T d x y D ≡ held_at n T (path_of d (x + east_step D - 1) (y + south_step D - 1))
unfolding beside
lies_found n T d x y D a b = rw (stays_both d x (east_step D) a, stays_both d y (south_step D) b)

module _ (n : ℕ) (T : List ℕ) (acc : Accepted n T) (p : ℕ) (lt : p < nodes T) where
  -- the calls on an accepted sheet, with a good node and good directions
  pub neighbour_is : (D : ℕ) → D < 8 → neighbour_of n T p D ≡ outcome_of (neighbour_found n T p D)
  unfolding neighbour_of
  neighbour_is D h = rw (neighbour_of, asked_good n T p (record { accepted = acc; node = lt }), le-ltb 7 D (omega arith))

  pub corner_is : (D C : ℕ) → D < 4 → C < 4 → adj_of D C ≡ true → corner_leaf_of n T p D C ≡ outcome_of (leaf_beyond n T p C D)
  unfolding corner_leaf_of
  corner_is D C hD hC a = rw (corner_leaf_of, asked_good n T p (record { accepted = acc; node = lt }), le-ltb 3 D (omega arith), le-ltb 3 C (omega arith), a)

  -- the block of p's size beside p's, and the node that is found for it
  module _ (D m l : ℕ) (e : neighbour_found n T p D ≡ At m l) where
    pub beside_p : Lies n T (depth_to T n p) (column (path_to T n p)) (row (path_to T n p)) D m l
    unfolding neighbour_found
    beside_p = rw (own_depth n T acc p lt) at (lies n T (length (path_to T n p)) (column (path_to T n p)) (row (path_to T n p)) D m l e)

    -- it is the smallest node that contains that block
    pub found_smallest : Smallest n T m (depth_to T n p) (column (path_to T n p) + east_step D - 1) (row (path_to T n p) + south_step D - 1)
    found_smallest =
        let l = beside_p in
        rw l.node
        (holder_smallest n T acc (depth_to T n p) (column (path_to T n p) + east_step D - 1) (row (path_to T n p) + south_step D - 1)
        (omega (arith, l.across.low, l.across.high))
        (omega (arith, l.down.low, l.down.high)))

-- what every answer of the neighbour's call says, whatever the words
pub record NeighbourAnswer (n : ℕ) (T : List ℕ) (p D v : ℕ) : Type 0 where
  pub asked : Asked n T p
  pub way : D < 8
  pub found : neighbour_found n T p D ≡ At (node_in v) (level_in v)
  -- its node is the smallest that contains the block of p's own size beside p's
  pub smallest : Smallest n T (node_in v) (depth_to T n p) (column (path_to T n p) + east_step D - 1) (row (path_to T n p) + south_step D - 1)
  -- its level is that node's own, so that the node's side is 2 ^ level pixels: at least p's, and p's own if the node is
  -- a fork
  pub level : level_in v ≡ level_of n T (node_in v)
  pub large : level_of n T p ≤ level_in v
  pub full : is_fork T (node_in v) ≡ true → level_in v ≡ level_of n T p

pub neighbour_answer : (n : ℕ) (T : List ℕ) (p D v : ℕ) → neighbour_of n T p D ≡ Ok v → NeighbourAnswer n T p D v
unfolding neighbour_of neighbour_found
neighbour_answer n T p D v e =
    let t = then_answered (asked_of n T p) _ v e in
    let u = then_answered (unless (ltb 7 D) (Err (BadDirection D))) _ v t.1 in
    let z = asked_of_lem n T p t.0 in
    let way : D ≤ 7 = ltb-false _ _ (answers_unless (ltb 7 D) (Err (BadDirection D)) refl u.0) in
    let π = path_to T n p in
    let found = answered_apart n T z.accepted (length π) (column π) (row π) D v u.1 in
    let k = found_facts n T z.accepted p D z.node (omega arith) (node_in v) (level_in v) found in
    record {
      asked = z;
      way = omega arith;
      found = found;
      smallest = found_smallest n T z.accepted p z.node D (node_in v) (level_in v) found;
      level = k.level;
      large = k.large;
      full = k.full;
    }

-- and what every answer of the corner calls says: D is the side or the diagonal, C the corner
pub record LeafAnswer (n : ℕ) (T : List ℕ) (p D C v : ℕ) : Type 0 where
  pub asked : Asked n T p
  -- its node is a leaf that contains the pixel in direction D of p's corner C, and its level is that leaf's own
  pub contains : Contains n T (node_in v) n (corner_column n T p C + east_step D - 1) (corner_row n T p C + south_step D - 1)
  pub leaf : is_fork T (node_in v) ≡ false
  pub level : level_in v ≡ level_of n T (node_in v)

module _ (n : ℕ) (T : List ℕ) (p D C v : ℕ) (z : Asked n T p) (e : outcome_of (leaf_beyond n T p C D) ≡ Ok v) where
  beyond : Lies n T n (corner_column n T p C) (corner_row n T p C) D (node_in v) (level_in v)
  beyond =
      lies n T n (corner_column n T p C) (corner_row n T p C) D (node_in v) (level_in v)
      (answered_apart n T z.accepted n (corner_column n T p C) (corner_row n T p C) D v e)

  contained : Contains n T (node_in v) n (corner_column n T p C + east_step D - 1) (corner_row n T p C + south_step D - 1)
  contained =
      let l = beyond in
      rw l.node
      (holder_contains n T z.accepted n (corner_column n T p C + east_step D - 1) (corner_row n T p C + south_step D - 1)
      (omega (arith, l.across.low, l.across.high))
      (omega (arith, l.down.low, l.down.high)))

  no_fork : is_fork T (node_in v) ≡ false
  no_fork = go (is_fork T (node_in v)) refl
    where
      go : (b : Bool) → is_fork T (node_in v) ≡ b → b ≡ false
      go false f = refl
      go true f =
          let l = beyond in
          let d = fork_size n T z.accepted n (corner_column n T p C + east_step D - 1) (corner_row n T p C + south_step D - 1)
          (omega (arith, l.across.low, l.across.high))
          (omega (arith, l.down.low, l.down.high))
          (rw l.node at f) in
          absurd (omega (arith, fork_deep n T z.accepted (node_in v) contained.node f, ap (depth_to T n) l.node))

  leaf_answer : LeafAnswer n T p D C v
  leaf_answer = record { asked = z; contains = contained; leaf = no_fork; level = beyond.level }

pub corner_leaf_answer : (n : ℕ) (T : List ℕ) (p D C v : ℕ) → corner_leaf_of n T p D C ≡ Ok v → LeafAnswer n T p D C v
unfolding corner_leaf_of
corner_leaf_answer n T p D C v e =
    let t = then_answered (asked_of n T p) _ v e in
    let side = then_answered (unless (ltb 3 D) (Err (BadDirection D))) _ v t.1 in
    let corner = then_answered (unless (ltb 3 C) (Err (BadDirection C))) _ v side.1 in
    let joined = then_answered (unless (not (adj_of D C)) (Err (BadDirection C))) _ v corner.1 in
    leaf_answer n T p D C v (asked_of_lem n T p t.0) joined.1

pub diagonal_leaf_answer : (n : ℕ) (T : List ℕ) (p C v : ℕ) → diagonal_leaf_of n T p C ≡ Ok v → LeafAnswer n T p (diagonal C) C v
unfolding diagonal_leaf_of
diagonal_leaf_answer n T p C v e =
    let t = then_answered (asked_of n T p) _ v e in
    let corner = then_answered (unless (ltb 3 C) (Err (BadDirection C))) _ v t.1 in
    leaf_answer n T p (diagonal C) C v (asked_of_lem n T p t.0) corner.1
