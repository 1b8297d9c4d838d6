-- A function's values at the leaves of an accepted table, taken together from the root down, are its values at all
-- nodes taken together, where a fork's adds nothing: a sum, since all nodes are one family; a least or a greatest,
-- since the root's is a bound of its sons' and so of every node's, and no other bound is nearer.
use mathlib.Core.Bool.{true, false, true≢false}
use mathlib.Core.List.{List}
use mathlib.Core.Logic.{⊎_elim}
use mathlib.Core.Path.{◌≡◌, refl, ap, sym, ◌∙◌}
use Prim.Native.Nat.{ℕ, zero, suc, ◌+◌, ◌-◌, ◌≤◌, ◌<◌, min, max}
use native.Mathlib.Nat.{le_trans, le_antisymm, le-min, max-le, min-le_left, min-le_right, le-max_left, le-max_right, eq-zero-or-pos}
use native.Mathlib.Omega.{arith}
use Rattle.base.specs.Tab.{sum, least, greatest}
use Rattle.base.proofs.BoolLaws.{by_bool}
use Rattle.base.proofs.CaseLaws.{cond_case}
use Rattle.base.proofs.LeastLaws.{least_le, least_ge}
use Rattle.base.proofs.GreatestLaws.{greatest_ge, greatest_le}
use Rattle.quad.proofs.TreeLaws.{by_quadrant}
use Rattle.table.specs.Table.{nodes, father, son, is_fork}
use Rattle.table.specs.Rules.{Accepted, AtLevel}
use Rattle.table.specs.Nodes.{son_type, level_of}
use Rattle.table.proofs.RuleLaws.{depth_root}
use Rattle.table.proofs.AcceptedLaws.{father_below, father_fork, son_son_type, son_type_lt, depth_up, depth_son, fork_deep, root_at, son_at}
use Rattle.table.proofs.FamilyLaws.{family_sum}
use Rattle.table.proofs.SizeLaws.{family}
use Rattle.ponds_entry.specs.Under.{fold_under}

module _ (op : ℕ → ℕ → ℕ) (f : ℕ → ℕ) (T : List ℕ) where
  pub fold_leaf : (l p : ℕ) → is_fork T p ≡ false → fold_under op f T l p ≡ f p
  unfolding fold_under
  fold_leaf zero p e = refl
  fold_leaf (suc l) p e = rw e

  -- what son q has
  abbrev pub son_fold : ℕ → ℕ → ℕ → ℕ
  son_fold l p q = fold_under op f T l (son T p q)

  pub fold_fork : (l p : ℕ) → is_fork T p ≡ true → fold_under op f T (suc l) p ≡ op (op (op (son_fold l p 0) (son_fold l p 1)) (son_fold l p 2)) (son_fold l p 3)
  unfolding fold_under
  fold_fork l p e = rw e

module _ (n : ℕ) (T : List ℕ) (acc : Accepted n T) where
  pub sum_under : (f : ℕ → ℕ) → ((p : ℕ) → p < nodes T → is_fork T p ≡ true → f p ≡ 0) → fold_under ◌+◌ f T n 0 ≡ sum f (nodes T)
  sum_under f forks =
      let e : level_of n T 0 ≡ n = omega (arith, depth_root T n) in
      let top : held 0 ≡ fold_under ◌+◌ f T n 0 = rw e in
      sym top
      ∙ family_sum T (λ p. true) (family n T acc) held (λ s z. absurd (true≢false z)) f of_fork
      (λ p lt v k. fold_leaf ◌+◌ f T (level_of n T p) p k)
      (λ p z. absurd (true≢false z))
    where
      held : ℕ → ℕ
      held p = fold_under ◌+◌ f T (level_of n T p) p

      of_fork : (p : ℕ) → p < nodes T → true ≡ true → is_fork T p ≡ true
          → held p ≡ f p + (held (son T p 0) + held (son T p 1) + held (son T p 2) + held (son T p 3))
      of_fork p lt v k =
          let l : ℕ = level_of n T p - 1 in
          let e : level_of n T p ≡ suc l = omega (arith, fork_deep n T acc p lt k) in
          let big : held p ≡ fold_under ◌+◌ f T (suc l) p = ap (λ (m : ℕ). fold_under ◌+◌ f T m p) e in
          let at-son : (q : ℕ) → q < 4 → held (son T p q) ≡ fold_under ◌+◌ f T l (son T p q) =
          λ q q4. let d = depth_son n T acc p q lt k q4 in let m : level_of n T (son T p q) ≡ l = omega arith in rw m in
          omega (
            arith,
            big,
            fold_fork ◌+◌ f T l p k,
            forks p lt k,
            at-son 0 (omega arith),
            at-son 1 (omega arith),
            at-son 2 (omega arith),
            at-son 3 (omega arith),
          )

  -- an operation that gives the nearest bound of two numbers, from below or from above
  module _
      (R : ℕ → ℕ → Type 0)
      (op : ℕ → ℕ → ℕ)
      (same : (a : ℕ) → R a a)
      (on : (a b c : ℕ) → R a b → R b c → R a c)
      (left : (a b : ℕ) → R (op a b) a)
      (right : (a b : ℕ) → R (op a b) b)
      (both : (a b c : ℕ) → R c a → R c b → R c (op a b))
      (f : ℕ → ℕ) where
    abbrev at : ℕ → ℕ → ℕ
    at l p = fold_under op f T l p

    -- a fork's is a bound of its sons'
    of_sons : (l p q : ℕ) → is_fork T p ≡ true → q < 4 → R (at (suc l) p) (at l (son T p q))
    of_sons l p q k q4 =
        let a : ℕ = at l (son T p 0) in
        let b : ℕ = at l (son T p 1) in
        let c : ℕ = at l (son T p 2) in
        let d : ℕ = at l (son T p 3) in
        let ab = left (op a b) c in
        let abc = left (op (op a b) c) d in
        rw (fold_fork op f T l p k)
        (by_quadrant (λ (q : ℕ). R (op (op (op a b) c) d) (at l (son T p q)))
        (on _ _ _ abc (on _ _ _ ab (left a b)))
        (on _ _ _ abc (on _ _ _ ab (right a b)))
        (on _ _ _ abc (right (op a b) c))
        (right (op (op a b) c) d)
        q q4)

    -- so the root's is a bound of every node's, since a node is a son of its father
    of_nodes : (k i : ℕ) → i < k → i < nodes T → R (at n 0) (at (level_of n T i) i)
    of_nodes zero i l lt = absurd (omega arith)
    of_nodes (suc k) i l lt =
        ⊎_elim
        (λ (e : i ≡ 0).
        let top : n - 0 ≡ n = omega arith in
        rw (e, depth_root T n, top) (same (at n 0)))
        (λ (pos : 0 < i).
        let u : ℕ = father T i in
        let below = father_below n T acc i lt pos in
        let fk = father_fork n T acc i lt pos in
        let e : level_of n T u ≡ suc (level_of n T i) = omega (arith, depth_up n T acc i lt pos, fork_deep n T acc u (omega arith) fk) in
        let r : R (at n 0) (at (suc (level_of n T i)) u) = rw e at (of_nodes k u (omega arith) (omega arith)) in
        let s = of_sons (level_of n T i) u (son_type T i) fk (son_type_lt n T acc i lt pos) in
        on _ _ _ r (rw (son_son_type n T acc i lt pos) at s))
        (eq-zero-or-pos i)

    -- a fork's own value is one that it bounds anyway
    pub bounds : (e : ℕ) → R (at n 0) e → ((p : ℕ) → p < nodes T → is_fork T p ≡ true → f p ≡ e) → (i : ℕ) → i < nodes T → R (at n 0) (f i)
    bounds e r forks i lt =
        ⊎_elim
        (λ (k : is_fork T i ≡ true). rw (forks i lt k) r)
        (λ (k : is_fork T i ≡ false). rw (fold_leaf op f T (level_of n T i) i k) at (of_nodes (suc i) i (omega arith) lt))
        (by_bool (is_fork T i))

    -- and what bounds every value bounds it
    nearest : (c : ℕ) → ((i : ℕ) → i < nodes T → R c (f i)) → (l p : ℕ) → AtLevel n T p l → R c (at l p)
    unfolding fold_under
    nearest c h zero p z = h p z.node
    nearest c h (suc l) p z =
        cond_case (R c) (is_fork T p) _ _
        (λ k.
        let e : suc l - 1 ≡ l = omega arith in
        let son : (q : ℕ) → q < 4 → R c (at l (son T p q)) = λ q q4. nearest c h l (son T p q) (rw e at (son_at z k q q4)) in
        both _ _ _ (both _ _ _ (both _ _ _ (son 0 (omega arith)) (son 1 (omega arith))) (son 2 (omega arith))) (son 3 (omega arith)))
        (λ k. h p z.node)

    pub nearest_root : (c : ℕ) → ((i : ℕ) → i < nodes T → R c (f i)) → R c (at n 0)
    nearest_root c h = nearest c h n 0 (root_at acc)

  -- the least value is never above the top
  fold_top : (top : ℕ) (f : ℕ → ℕ) → ((p : ℕ) → p < nodes T → f p ≤ top) → (l p : ℕ) → AtLevel n T p l → fold_under min f T l p ≤ top
  unfolding fold_under
  fold_top top f h zero p z = h p z.node
  fold_top top f h (suc l) p z =
      cond_case (λ (v : ℕ). v ≤ top) (is_fork T p) _ _
      (λ k.
      let e : suc l - 1 ≡ l = omega arith in
      le_trans (min-le_right _ _) (fold_top top f h l (son T p 3) (rw e at (son_at z k 3 (omega arith)))))
      (λ k. h p z.node)

  pub least_under : (top : ℕ) (f : ℕ → ℕ) → ((p : ℕ) → p < nodes T → f p ≤ top) → ((p : ℕ) → p < nodes T → is_fork T p ≡ true → f p ≡ top)
      → fold_under min f T n 0 ≡ least top f (nodes T)
  least_under top f h forks =
      let below = bounds ◌≤◌ min (λ a. omega arith) (λ a b c l m. le_trans l m) min-le_left min-le_right (λ a b c l m. le-min l m) f in
      let nearest = nearest_root ◌≤◌ min (λ a. omega arith) (λ a b c l m. le_trans l m) min-le_left min-le_right (λ a b c l m. le-min l m) f in
      let low = fold_top top f h n 0 (root_at acc) in
      le_antisymm (least_ge top f _ (nodes T) low (below top low forks)) (nearest _ (least_le top f (nodes T)))

  pub greatest_under : (f : ℕ → ℕ) → ((p : ℕ) → p < nodes T → is_fork T p ≡ true → f p ≡ 0) → fold_under max f T n 0 ≡ greatest f (nodes T)
  greatest_under f forks =
      let above = bounds (λ a b. b ≤ a) max (λ a. omega arith) (λ a b c l m. le_trans m l) le-max_left le-max_right (λ a b c l m. max-le l m) f in
      let nearest = nearest_root (λ a b. b ≤ a) max (λ a. omega arith) (λ a b c l m. le_trans m l) le-max_left le-max_right (λ a b c l m. max-le l m) f in
      le_antisymm (nearest _ (greatest_ge f (nodes T))) (greatest_le f _ (nodes T) (above 0 (omega arith) forks))
