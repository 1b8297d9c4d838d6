-- Places parted among owners: the least, and the greatest, of the places whose owner passes a test is that of the
-- owners' bounds, where every place keeps its owner's bound and some place of the owner reaches it.
use mathlib.Core.Bool.{Bool, true, cond}
use mathlib.Core.Path.{◌≡◌}
use Prim.Native.Nat.{ℕ, ◌≤◌, ◌<◌}
use native.Mathlib.Nat.{le_trans, le_antisymm}
use native.Mathlib.Omega.{arith}
use Rattle.base.specs.Tab.{least, greatest}
use Rattle.base.proofs.CaseLaws.{cond_case}
use Rattle.base.proofs.LeastLaws.{least_top, least_le, least_ge}
use Rattle.base.proofs.GreatestLaws.{greatest_ge, greatest_le}

-- a place of p whose value is the bound
pub record Reached (owner value : ℕ → ℕ) (places p bound : ℕ) : Type 0 where
  pub at : ℕ
  pub below : at < places
  pub owned : owner at ≡ p
  pub meets : value at ≡ bound

module _
    (owner value bound : ℕ → ℕ)
    (places owners : ℕ)
    (t : ℕ → Bool)
    (owned : (i : ℕ) → i < places → owner i < owners)
    (reached : (p : ℕ) → p < owners → t p ≡ true → Reached owner value places p (bound p)) where
  pub least_parts : (top : ℕ) → ((i : ℕ) → i < places → bound (owner i) ≤ value i)
      → least top (λ i. cond (t (owner i)) (value i) top) places ≡ least top (λ p. cond (t p) (bound p) top) owners
  least_parts top keeps =
      let f : ℕ → ℕ = λ i. cond (t (owner i)) (value i) top in
      let g : ℕ → ℕ = λ p. cond (t p) (bound p) top in
      le_antisymm
      (least_ge top g (least top f places) owners (least_top top f places)
      (λ p lp.
      cond_case (λ (v : ℕ). least top f places ≤ v) (t p) (bound p) top
      (λ e. let r = reached p lp e in
      let v : f r.at ≡ bound p = rw (r.owned, e) r.meets in
      rw v at (least_le top f places r.at r.below))
      (λ e. least_top top f places)))
      (least_ge top f (least top g owners) places (least_top top g owners)
      (λ i li.
      let at-owner : least top g owners ≤ g (owner i) = least_le top g owners (owner i) (owned i li) in
      cond_case (λ (v : ℕ). least top g owners ≤ v) (t (owner i)) (value i) top
      (λ e. le_trans (rw e at at-owner) (keeps i li))
      (λ e. least_top top g owners)))

  pub greatest_parts : ((i : ℕ) → i < places → value i ≤ bound (owner i))
      → greatest (λ i. cond (t (owner i)) (value i) 0) places ≡ greatest (λ p. cond (t p) (bound p) 0) owners
  greatest_parts keeps =
      let f : ℕ → ℕ = λ i. cond (t (owner i)) (value i) 0 in
      let g : ℕ → ℕ = λ p. cond (t p) (bound p) 0 in
      le_antisymm
      (greatest_le f (greatest g owners) places
      (λ i li.
      let at-owner : g (owner i) ≤ greatest g owners = greatest_ge g owners (owner i) (owned i li) in
      cond_case (λ (v : ℕ). v ≤ greatest g owners) (t (owner i)) (value i) 0
      (λ e. le_trans (keeps i li) (rw e at at-owner))
      (λ e. omega arith)))
      (greatest_le g (greatest f places) owners
      (λ p lp.
      cond_case (λ (v : ℕ). v ≤ greatest f places) (t p) (bound p) 0
      (λ e. let r = reached p lp e in
      let v : f r.at ≡ bound p = rw (r.owned, e) r.meets in
      rw v at (greatest_ge f places r.at r.below))
      (λ e. omega arith)))
