-- Chains of black leaves: they begin and end at black leaves, one may go on where another ends, and each may be gone
-- back.
use mathlib.Core.List.{List}
use mathlib.Core.Path.{◌≡◌}
use Prim.Native.Nat.{ℕ, ◌+◌, ◌-◌, ◌<◌}
use native.Mathlib.Omega.{arith}
use Rattle.quad.specs.Direction.{east_step, south_step}
use Rattle.quad.proofs.TreeLaws.{by_quadrant}
use Rattle.neighbour.specs.Containing.{Touches, opposite}
use Rattle.neighbour.proofs.BackLaws.{cancels}
use Rattle.ponds.specs.Chain.{Water, Shares, Chain, end, link}

-- the direction back from a side is a side
pub straight_back : (D : ℕ) → D < 4 → opposite D < 4
unfolding opposite
straight_back = by_quadrant (λ (D : ℕ). opposite D < 4) (omega arith) (omega arith) (omega arith) (omega arith)

module _ (n : ℕ) (T : List ℕ) where
  -- a length of side is shared both ways
  pub touches_back : (p q D x y : ℕ) → D < 4 → Touches n T p q D x y → Touches n T q p (opposite D) (x + east_step D - 1) (y + south_step D - 1)
  touches_back p q D x y side t =
      let k = cancels D (omega arith) in
      let bx : x + east_step D - 1 + east_step (opposite D) - 1 ≡ x = omega (arith, k.east, t.east) in
      let by : y + south_step D - 1 + south_step (opposite D) - 1 ≡ y = omega (arith, k.south, t.south) in
      record {
        east = omega (arith, k.east, t.east);
        south = omega (arith, k.south, t.south);
        here = t.beyond;
        beyond = rw (bx, by) t.here;
      }

  shares_back : (p q : ℕ) → Shares n T p q → Shares n T q p
  shares_back p q s =
      let D : ℕ = s.side in
      record {
        side = opposite D;
        x = s.x + east_step D - 1;
        y = s.y + south_step D - 1;
        straight = straight_back D s.straight;
        touch = touches_back p q D s.x s.y s.straight s.touch;
      }

  pub chain_start : (p q : ℕ) → Chain n T p q → Water T p
  chain_start p q (end w) = w
  chain_start p q (link w s c) = w

  pub chain_end : (p q : ℕ) → Chain n T p q → Water T q
  chain_end p q (end w) = w
  chain_end p q (link {q = k} w s c) = chain_end k q c

  pub chain_joined : (p q r : ℕ) → Chain n T p q → Chain n T q r → Chain n T p r
  chain_joined p q r (end w) d = d
  chain_joined p q r (link {q = k} w s c) d = link w s (chain_joined k q r c d)

  pub chain_back : (p q : ℕ) → Chain n T p q → Chain n T q p
  chain_back p q (end w) = end w
  chain_back p q (link {q = k} w s c) = chain_joined q k p (chain_back k q c) (link (chain_start k q c) (shares_back p k s) (end w))
