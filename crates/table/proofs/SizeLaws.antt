-- What a tree adds up over its nodes, for each leaf a weight by its level and colour and for each fork another, an
-- accepted table adds up over all its own nodes (`tree_sum`), which are one family; so it has exactly as many nodes as
-- its tree.
use mathlib.Core.Bool.{true, false, cond, true≢false}
use mathlib.Core.List.{List}
use mathlib.Core.Path.{◌≡◌, refl, sym, ◌∙◌}
use Prim.Native.Nat.{ℕ, suc, ◌+◌, ◌-◌, ◌<◌}
use native.Mathlib.Omega.{arith}
use Rattle.base.specs.Tab.{sum}
use Rattle.base.proofs.CaseLaws.{cond_case}
use Rattle.base.proofs.SumLaws.{sum_same, sum_ones}
use Rattle.quad.specs.Tree.{Tree, leaf, fork, size_of}
use Rattle.table.specs.Table.{nodes, son, node_type, is_fork}
use Rattle.table.specs.Rules.{Accepted}
use Rattle.table.specs.Nodes.{level_of, tree_at}
use Rattle.table.proofs.RuleLaws.{depth_root}
use Rattle.table.proofs.AcceptedLaws.{tree_leaf, tree_fork, root_father, father_below, father_fork, named_once, sons_of, depth_son, fork_deep}
use Rattle.table.proofs.FamilyLaws.{Family, family_sum}

module _ (n : ℕ) (T : List ℕ) (acc : Accepted n T) where
  -- all nodes are of one family
  pub family : Family T (λ p. true)
  family = record {
    some = acc.sized.some;
    root = omega (arith, acc.sized.few, root_father n T acc);
    above = λ s ls pos v. record {
      node = omega (arith, father_below n T acc s ls pos);
      family = refl;
      fork = father_fork n T acc s ls pos;
      once = named_once n T acc s ls pos;
    };
    below = λ p lt v f q q4. let i = sons_of n T acc p lt f q q4 in record { node = i.below; up = i.up };
  }

  -- F is added up over a tree's nodes: a leaf's is w of its level and colour, a fork's is v and that of its four sons
  module _
      (F : ℕ → Tree → ℕ)
      (w : ℕ → ℕ → ℕ)
      (v : ℕ)
      (leaves : (l c : ℕ) → F l (leaf c) ≡ w l c)
      (forks : (l : ℕ) (a b c d : Tree) → F (suc l) (fork a b c d) ≡ v + (F l a + (F l b + (F l c + F l d)))) where
    -- F of the tree of node p, and what p itself adds to it
    held : ℕ → ℕ
    held p = F (level_of n T p) (tree_at T (level_of n T p) p)

    own : ℕ → ℕ
    own p = cond (is_fork T p) v (w (level_of n T p) (node_type T p))

    held_fork : (l k p : ℕ) → k ≡ suc l → is_fork T p ≡ true → F k (tree_at T k p)
        ≡ v + (F l (tree_at T l (son T p 0)) + (F l (tree_at T l (son T p 1)) + (F l (tree_at T l (son T p 2)) + F l (tree_at T l (son T p 3)))))
    held_fork l k p e f = rw (e, tree_fork T l p f) (forks l _ _ _ _)

    held_forks : (p : ℕ) → p < nodes T → true ≡ true → is_fork T p ≡ true
        → held p ≡ own p + (held (son T p 0) + held (son T p 1) + held (son T p 2) + held (son T p 3))
    unfolding held own
    held_forks p lt v f =
        let l : ℕ = level_of n T p - 1 in
        let e : level_of n T p ≡ suc l = omega (arith, fork_deep n T acc p lt f) in
        let at-son : (q : ℕ) → q < 4 → held (son T p q) ≡ F l (tree_at T l (son T p q)) =
        λ q q4. let d = depth_son n T acc p q lt f q4 in let k : level_of n T (son T p q) ≡ l = omega arith in rw k in
        let big = held_fork l (level_of n T p) p e f in
        rw f (omega (arith, big, at-son 0 (omega arith), at-son 1 (omega arith), at-son 2 (omega arith), at-son 3 (omega arith)))

    held_leaves : (p : ℕ) → p < nodes T → true ≡ true → is_fork T p ≡ false → held p ≡ own p
    unfolding held own
    held_leaves p lt v f = rw (tree_leaf T (level_of n T p) p f, f) (leaves (level_of n T p) (node_type T p))

    -- the tree's is the sum over the table's nodes
    pub tree_sum : F n (tree_at T n 0) ≡ sum (λ p. cond (is_fork T p) v (w (level_of n T p) (node_type T p))) (nodes T)
    unfolding held own
    tree_sum =
        let e : level_of n T 0 ≡ n = omega (arith, depth_root T n) in
        let top : held 0 ≡ F n (tree_at T n 0) = rw e in
        sym top
        ∙ family_sum T (λ p. true) family held (λ s z. absurd (true≢false z)) own held_forks held_leaves (λ p z. absurd (true≢false z))

  -- as many nodes as the tree has
  pub tree_size : size_of (tree_at T n 0) ≡ nodes T
  unfolding size_of
  tree_size =
      tree_sum (λ l t. size_of t) (λ l c. 1) 1 (λ l c. refl) (λ l a b c d. refl)
      ∙ sum_same (λ p. cond (is_fork T p) 1 1) (λ p. 1) (nodes T) (λ p lt. cond_case (λ (k : ℕ). k ≡ 1) (is_fork T p) 1 1 (λ e. refl) (λ e. refl))
      ∙ sum_ones (nodes T)
