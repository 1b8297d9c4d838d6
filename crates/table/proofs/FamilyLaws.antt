-- Nodes that hang together: those of a family are sons of forks of the family, each of exactly one and once, but for
-- the root. What each node of it holds, its own and what its sons hold, the root holds of all (`family_sum`): add up
-- what all nodes hold. Each but the root is the son of one father, so the sum is that of all nodes' own and of what all
-- but the root hold.
use mathlib.Core.Bool.{Bool, true, false, cond, true≢false}
use mathlib.Core.List.{List}
use mathlib.Core.Logic.{⊎_elim}
use mathlib.Core.Path.{◌≡◌, refl, ap, sym, ◌∙◌}
use Prim.Native.Nat.{ℕ, ◌+◌, ◌≤◌, ◌<◌}
use native.Mathlib.Nat.{eq-zero-or-pos}
use native.Mathlib.Omega.{arith}
use lib.Dec.{eqb}
use borrow.Author.Tests.{eq-eqb, ne_eqb, eqb-true, eqb-false}
use Rattle.base.specs.Tab.{sum}
use Rattle.base.proofs.BoolLaws.{by_bool}
use Rattle.base.proofs.CaseLaws.{cond_case}
use Rattle.base.proofs.SumLaws.{sum_same, sum_add, sum_zeros, sum_swap, sum_one, sum_past}
use Rattle.table.specs.Table.{nodes, father, son, is_fork}
use Rattle.table.specs.Rules.{one, times_named}

-- what a node's father is, and what a fork's son is
pub record Above (T : List ℕ) (K : ℕ → Bool) (s : ℕ) : Type 0 where
  pub node : father T s < nodes T
  pub family : K (father T s) ≡ true
  pub fork : is_fork T (father T s) ≡ true
  pub once : times_named T (father T s) s ≡ 1

pub record Below (T : List ℕ) (p q : ℕ) : Type 0 where
  pub node : son T p q < nodes T
  pub up : father T (son T p q) ≡ p

pub record Family (T : List ℕ) (K : ℕ → Bool) : Type 0 where
  pub some : 0 < nodes T
  pub root : nodes T ≤ father T 0
  pub above : (s : ℕ) → s < nodes T → 0 < s → K s ≡ true → Above T K s
  pub below : (p : ℕ) → p < nodes T → K p ≡ true → is_fork T p ≡ true → (q : ℕ) → q < 4 → Below T p q

-- v where the test holds
abbrev at : Bool → ℕ → ℕ
at b v = cond b v 0

at_zero : (b : Bool) (v : ℕ) → v ≡ 0 → at b v ≡ 0
at_zero b v e = cond_case (λ (k : ℕ). k ≡ 0) b v 0 (λ h. e) (λ h. refl)

four_at_lem : (a b c d : Bool) (v : ℕ) → one a + one b + one c + one d ≡ 1 → at a v + at b v + at c v + at d v ≡ v
four_at_lem true true c d v e = absurd (omega arith)
four_at_lem true false true d v e = absurd (omega arith)
four_at_lem true false false true v e = absurd (omega arith)
four_at_lem true false false false v e = omega arith
four_at_lem false true true d v e = absurd (omega arith)
four_at_lem false true false true v e = absurd (omega arith)
four_at_lem false true false false v e = omega arith
four_at_lem false false true true v e = absurd (omega arith)
four_at_lem false false true false v e = omega arith
four_at_lem false false false true v e = omega arith
four_at_lem false false false false v e = absurd (omega arith)

module _ (T : List ℕ) (K : ℕ → Bool) (fam : Family T K) where
  N : ℕ
  N = nodes T

  -- s has a father, unless it is the root
  father_in : (s : ℕ) → father T s < N → 0 < s
  unfolding N
  father_in s lf = ⊎_elim (λ (e : s ≡ 0). absurd (omega (arith, fam.root, ap (father T) e))) (λ l. l) (eq-zero-or-pos s)

  -- g is 0 outside the family
  module _ (g : ℕ → ℕ) (outside : (s : ℕ) → K s ≡ false → g s ≡ 0) where
    -- g of s where s is a son of p
    below : ℕ → ℕ → ℕ
    below p s = at (eqb (father T s) p) (g s)

    four : ℕ → ℕ → ℕ
    four p s = at (eqb (son T p 0) s) (g s) + at (eqb (son T p 1) s) (g s) + at (eqb (son T p 2) s) (g s) + at (eqb (son T p 3) s) (g s)

    named : (p s : ℕ) → p < N → K p ≡ true → is_fork T p ≡ true → s < N → below p s ≡ four p s
    unfolding below four N
    named p s lt v f ls =
        ⊎_elim
        (λ (e : eqb (father T s) p ≡ true).
        let up : father T s ≡ p = eqb-true (father T s) p e in
        ⊎_elim
        (λ (vs : K s ≡ true).
        let once = (fam.above s ls (father_in s (omega arith)) vs).once in
        rw e (sym (four_at_lem (eqb (son T p 0) s) (eqb (son T p 1) s) (eqb (son T p 2) s) (eqb (son T p 3) s) (g s) (rw up at once))))
        (λ (vs : K s ≡ false).
        let z = outside s vs in
        let o : (q : ℕ) → at (eqb (son T p q) s) (g s) ≡ 0 = λ q. at_zero (eqb (son T p q) s) (g s) z in
        omega (arith, at_zero (eqb (father T s) p) (g s) z, o 0, o 1, o 2, o 3))
        (by_bool (K s)))
        (λ (e : eqb (father T s) p ≡ false).
        let no : (q : ℕ) → q < 4 → eqb (son T p q) s ≡ false =
        λ q q4. ne_eqb (son T p q) s (λ h. eqb-false (father T s) p e (ap (father T) (sym h) ∙ (fam.below p lt v f q q4).up)) in
        rw (e, no 0 (omega arith), no 1 (omega arith), no 2 (omega arith), no 3 (omega arith)))
        (by_bool (eqb (father T s) p))

    -- the sum over all nodes of a fork's sons is that over its four son words; a leaf has none
    sons_sum : (p : ℕ) → p < N → K p ≡ true → is_fork T p ≡ true → sum (below p) N ≡ g (son T p 0) + g (son T p 1) + g (son T p 2) + g (son T p 3)
    unfolding four N
    sons_sum p lt v f =
        let d : ℕ → ℕ → ℕ = λ q s. at (eqb (son T p q) s) (g s) in
        let o : (q : ℕ) → q < 4 → sum (d q) N ≡ g (son T p q) = λ q q4. sum_one g (son T p q) N (fam.below p lt v f q q4).node in
        sum_same (below p) (four p) N (λ s ls. named p s lt v f ls)
        ∙ omega (
          arith,
          sum_add (λ s. d 0 s + d 1 s + d 2 s) (d 3) N,
          sum_add (λ s. d 0 s + d 1 s) (d 2) N,
          sum_add (d 0) (d 1) N,
          o 0 (omega arith),
          o 1 (omega arith),
          o 2 (omega arith),
          o 3 (omega arith),
        )

    -- no node of the family is the son of a leaf, or of a node outside
    no_sons : (p : ℕ) → p < N → (K p ≡ true → is_fork T p ≡ false) → sum (below p) N ≡ 0
    unfolding below N
    no_sons p lt f =
        sum_same (below p) (λ s. 0) N
        (λ s ls.
        ⊎_elim
        (λ (e : eqb (father T s) p ≡ true).
        let up : father T s ≡ p = eqb-true (father T s) p e in
        ⊎_elim
        (λ (vs : K s ≡ true).
        let a = fam.above s ls (father_in s (omega arith)) vs in
        absurd (true≢false (sym a.fork ∙ ap (is_fork T) up ∙ f (ap K (sym up) ∙ a.family))))
        (λ (vs : K s ≡ false). at_zero (eqb (father T s) p) (g s) (outside s vs))
        (by_bool (K s)))
        (λ (e : eqb (father T s) p ≡ false). rw e)
        (by_bool (eqb (father T s) p)))
        ∙ sum_zeros N

    -- each node but the root is counted once
    counted : ℕ → ℕ
    counted s = sum (λ p. below p s) N

    once : (s : ℕ) → s < N → at (eqb 0 s) (g s) + counted s ≡ g s
    unfolding counted below N
    once s ls =
        ⊎_elim
        (λ (e : s ≡ 0).
        let z : counted s ≡ 0 = sum_past (λ (p : ℕ). g s) (father T s) N (omega (arith, fam.root, ap (father T) e)) in
        rw (z, eq-eqb 0 s (sym e)) (omega arith))
        (λ (pos : 0 < s).
        ⊎_elim
        (λ (vs : K s ≡ true).
        let o : counted s ≡ g s = sum_one (λ (p : ℕ). g s) (father T s) N (fam.above s ls pos vs).node in
        rw (o, ne_eqb 0 s (λ e. omega arith)) (omega arith))
        (λ (vs : K s ≡ false).
        let z = outside s vs in
        let o : counted s ≡ 0 = sum_same (λ p. below p s) (λ p. 0) N (λ p lp. at_zero (eqb (father T s) p) (g s) z) ∙ sum_zeros N in
        omega (arith, o, z, at_zero (eqb 0 s) (g s) z))
        (by_bool (K s)))
        (eq-zero-or-pos s)

    all_once : sum g N ≡ g 0 + sum (λ p. sum (below p) N) N
    unfolding counted N
    all_once =
        sum_same g (λ s. at (eqb 0 s) (g s) + counted s) N (λ s ls. sym (once s ls))
        ∙ omega (arith, sum_add (λ s. at (eqb 0 s) (g s)) counted N, sum_one g 0 N fam.some, sum_swap below N N)

    -- each node holds its own and what its sons hold
    module _
        (own : ℕ → ℕ)
        (forks : (p : ℕ) → p < nodes T → K p ≡ true → is_fork T p ≡ true → g p ≡ own p + (g (son T p 0) + g (son T p 1) + g (son T p 2) + g (son T p 3)))
        (leaves : (p : ℕ) → p < nodes T → K p ≡ true → is_fork T p ≡ false → g p ≡ own p)
        (none : (p : ℕ) → K p ≡ false → own p ≡ 0) where
      holds : (p : ℕ) → p < N → g p ≡ own p + sum (below p) N
      unfolding N
      holds p lt =
          ⊎_elim
          (λ (v : K p ≡ true).
          ⊎_elim
          (λ (f : is_fork T p ≡ true). omega (arith, forks p lt v f, sons_sum p lt v f))
          (λ (f : is_fork T p ≡ false). omega (arith, leaves p lt v f, no_sons p lt (λ w. f)))
          (by_bool (is_fork T p)))
          (λ (v : K p ≡ false). omega (arith, outside p v, none p v, no_sons p lt (λ w. absurd (true≢false (sym w ∙ v)))))
          (by_bool (K p))

      -- so the root holds what all nodes have of their own
      pub family_sum : g 0 ≡ sum own (nodes T)
      unfolding N
      family_sum =
          let all = sum_same g (λ p. own p + sum (below p) N) N holds in
          omega (arith, all, sum_add own (λ p. sum (below p) N) N, all_once)
