-- What the search gives, by name: the neighbour of document 01 and its level, in an accepted table.
use Rattle.std.specs.Prelude.{Ok}
use mathlib.Core.Bool.{Bool, true, false, cond, ◌&&◌}
use mathlib.Core.List.{List}
use mathlib.Core.Path.{◌≡◌, refl, ap, sym, ◌∙◌}
use Prim.Native.Nat.{ℕ, ◌+◌, ◌-◌, ◌^◌, ◌≤◌, ◌<◌}
use native.Mathlib.Omega.{arith}
use lib.ListN.{length}
use Rattle.std.proofs.Common.{Option, Some, None}
use Rattle.answer.specs.Numbers.{value_of, with_level, node_in, level_in}
use Rattle.answer.proofs.OutcomeLaws.{level_apart}
use Rattle.quad.specs.Block.{path_of, column, row}
use Rattle.quad.specs.Direction.{east_step, south_step, stays}
use Rattle.quad.proofs.PathLaws.{path_quadrants}
use Rattle.table.specs.Table.{nodes, is_fork}
use Rattle.table.specs.Rules.{depth_to, Accepted}
use Rattle.table.specs.Nodes.{path_to, holder, level_of}
use Rattle.table.proofs.AcceptedLaws.{depth_le}
use Rattle.table.proofs.HolderLaws.{held, own_quadrants, own_depth}
use Rattle.neighbour.specs.declared.Found.{Found}
use Rattle.neighbour.specs.Neighbour.{held_at, beside, neighbour_found, outcome_of, At}
use Rattle.neighbour.specs.Search.{stay, Where, off, block, moved, found_in, Sought, Small}
use Rattle.neighbour.proofs.AtLaws.{one_node, one_level}
use Rattle.neighbour.proofs.SearchLaws.{MovedTo, moved_to, Beside, held_by, beside_moved}

-- what is known of the node m of level l that was found for p
pub record FoundAt (n : ℕ) (T : List ℕ) (p m l : ℕ) : Type 0 where
  pub below : m < nodes T
  pub level : l ≡ level_of n T m
  pub large : level_of n T p ≤ l
  pub full : is_fork T m ≡ true → l ≡ level_of n T p

module _ (n : ℕ) (T : List ℕ) (acc : Accepted n T) (p D : ℕ) (lt : p < nodes T) (le : D ≤ stay) where
  landed : MovedTo D (path_to T n p) (moved D (path_to T n p))
  landed = moved_to D (path_to T n p) le (own_quadrants n T acc p lt)

  block_level : (ρ : List ℕ) → Beside D (path_to T n p) ρ → level_of n T p + (length ρ - depth_to T n (holder T ρ)) ≡ level_of n T (holder T ρ)
  block_level ρ b =
      let h = held n T acc ρ b.quadrants in
      omega (arith, h.shallow, b.size, own_depth n T acc p lt, depth_le T n p)

  found_at : (w : Where) → MovedTo D (path_to T n p) w → found_in n T (level_of n T p) w ≡ held_by n T w
  unfolding MovedTo found_in held_by
  found_at off m = refl
  found_at (block ρ) m = rw (block_level ρ m)

  -- the search from p's own level finds the neighbour and its level
  found_own : found_in n T (level_of n T p) (moved D (path_to T n p)) ≡ neighbour_found n T p D
  unfolding neighbour_found
  found_own = found_at (moved D (path_to T n p)) landed ∙ sym (beside_moved n T D (path_to T n p) le (own_quadrants n T acc p lt))

  -- what is found: a node, at p's level or above it, and a fork only at p's own
  facts : (w : Where) → MovedTo D (path_to T n p) w → (m l : ℕ) → found_in n T (level_of n T p) w ≡ At m l → FoundAt n T p m l
  unfolding MovedTo found_in
  facts off d m l e = cc
  facts (block ρ) d m l e =
      let h = held n T acc ρ d.quadrants in
      let em : holder T ρ ≡ m = one_node e in
      let el : level_of n T p + (length ρ - depth_to T n (holder T ρ)) ≡ l = one_level e in
      let k = block_level ρ d in
      let s = d.size in
      let o = own_depth n T acc p lt in
      record {
        below = rw em at h.below;
        level = sym el ∙ k ∙ ap (level_of n T) em;
        large = omega arith;
        full = λ f. let g = h.full (rw em f) in omega arith;
      }

  pub found_facts : (m l : ℕ) → neighbour_found n T p D ≡ At m l → FoundAt n T p m l
  found_facts m l e = facts (moved D (path_to T n p)) landed m l (found_own ∙ e)

-- what `find` asks of its caller is what the climb asks, and what the search then gives is the neighbour
module _ (n : ℕ) (T : List ℕ) (p level D : ℕ) (z : Accepted n T × (p < nodes T) × (level ≡ level_of n T p) × (D < stay)) where
  pub sought : Sought n T p level D
  sought = record { accepted = z.0; node = z.1; low = omega (arith, z.2, depth_le T n p); way = omega (arith, z.3) }

  pub found_neighbour : found_in n T level (moved D (path_to T n p)) ≡ neighbour_found n T p D
  found_neighbour = rw z.2 (found_own n T z.0 p D z.1 (omega (arith, z.3)))

-- whatever block is looked for, the node with its level beside it fits a word
pub beside_small : (n : ℕ) (T : List ℕ) → Accepted n T → (d x y D : ℕ) → Small (beside n T d x y D)
unfolding beside Small
beside_small n T acc d x y D = go (stays (2 ^ d) x (east_step D) && stays (2 ^ d) y (south_step D))
  where
    π : List ℕ
    π = path_of d (x + east_step D - 1) (y + south_step D - 1)

    go : (b : Bool) → Small (cond b (held_at n T π) None)
    go true =
        let below = (held n T acc π (path_quadrants d (x + east_step D - 1) (y + south_step D - 1))).below in
        (omega (arith, acc.sized.few, acc.sized.level), omega (arith, acc.sized.level))
    go false = tt

pub neighbour_small : (n : ℕ) (T : List ℕ) → Accepted n T → (p D : ℕ) → Small (neighbour_found n T p D)
unfolding neighbour_found
neighbour_small n T acc p D = let π = path_to T n p in beside_small n T acc (length π) (column π) (row π) D

-- so node and level are read off the value
apart_at : (f : Option Found) (v : ℕ) → Small f → outcome_of f ≡ Ok v → f ≡ At (node_in v) (level_in v)
unfolding Small
apart_at None v s e = cc
apart_at (Some f) v s e =
    let m : ℕ = f.node in
    let l : ℕ = f.level in
    let is : with_level m l ≡ v = ap value_of e in
    let a = level_apart m l s.1 in
    rw (← is, a.0, a.1)

pub answered_apart : (n : ℕ) (T : List ℕ) → Accepted n T → (d x y D v : ℕ) → outcome_of (beside n T d x y D) ≡ Ok v
    → beside n T d x y D ≡ At (node_in v) (level_in v)
answered_apart n T acc d x y D v = apart_at (beside n T d x y D) v (beside_small n T acc d x y D)
