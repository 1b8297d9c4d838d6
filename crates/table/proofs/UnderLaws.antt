-- A property of every node in or under a node: from the sons to their father, and from the root to every node, since a
-- node is a son of its father.
use mathlib.Core.Bool.{false, false≢true}
use mathlib.Core.List.{List}
use mathlib.Core.Logic.{⊎_elim}
use mathlib.Core.Path.{◌≡◌, sym, ◌∙◌}
use Prim.Native.Nat.{ℕ, zero, suc, ◌-◌, ◌<◌}
use native.Mathlib.Nat.{eq-zero-or-pos}
use native.Mathlib.Omega.{arith}
use Rattle.table.specs.Table.{nodes, father, son, is_fork}
use Rattle.table.specs.Rules.{Accepted}
use Rattle.table.specs.Nodes.{son_type, level_of}
use Rattle.table.specs.Under.{Under}
use Rattle.table.proofs.RuleLaws.{depth_root}
use Rattle.table.proofs.AcceptedLaws.{father_below, father_fork, son_son_type, son_type_lt, depth_up, fork_deep}

module _ (T : List ℕ) where
  -- what follows from it holds too
  pub under_still : (P Q : ℕ → Type 0) → ((s : ℕ) → P s → Q s) → (l p : ℕ) → Under T P l p → Under T Q l p
  unfolding Under
  under_still P Q t zero p h = t p h
  under_still P Q t (suc l) p h = (t p h.0, λ f q q4. under_still P Q t l (son T p q) (h.1 f q q4))

module _ (T : List ℕ) (P : ℕ → Type 0) where
  under_own : (l p : ℕ) → Under T P l p → P p
  unfolding Under
  under_own zero p h = h
  under_own (suc l) p h = h.0

  -- a leaf has nothing under it
  pub under_leaf : (l p : ℕ) → is_fork T p ≡ false → P p → Under T P l p
  unfolding Under
  under_leaf zero p f h = h
  under_leaf (suc l) p f h = (h, λ t. absurd (false≢true (sym f ∙ t)))

  -- a fork has its sons
  pub under_fork : (l p : ℕ) → 0 < l → P p → ((q : ℕ) → q < 4 → Under T P (l - 1) (son T p q)) → Under T P l p
  unfolding Under
  under_fork zero p pos h s = absurd (omega arith)
  under_fork (suc l) p pos h s =
      let e : suc l - 1 ≡ l = omega arith in
      (h, λ f q q4. rw e at (s q q4))

  -- from the root, each node's father has been gone through
  fathers : (n : ℕ) → Accepted n T → Under T P n 0 → (k i : ℕ) → i < k → i < nodes T → Under T P (level_of n T i) i
  unfolding Under
  fathers n acc h zero i l lt = absurd (omega arith)
  fathers n acc h (suc k) i l lt =
      ⊎_elim
      (λ (e : i ≡ 0).
      let top : n - 0 ≡ n = omega arith in
      rw (e, depth_root T n, top) h)
      (λ (pos : 0 < i).
      let f : ℕ = father T i in
      let below = father_below n T acc i lt pos in
      let fk = father_fork n T acc i lt pos in
      let e : level_of n T f ≡ suc (level_of n T i) = omega (arith, depth_up n T acc i lt pos, fork_deep n T acc f (omega arith) fk) in
      let u : Under T P (suc (level_of n T i)) f = rw e at (fathers n acc h k f (omega arith) (omega arith)) in
      rw (son_son_type n T acc i lt pos) at (u.1 fk (son_type T i) (son_type_lt n T acc i lt pos)))
      (eq-zero-or-pos i)

  pub under_all : (n : ℕ) → Accepted n T → Under T P n 0 → (i : ℕ) → i < nodes T → P i
  under_all n acc h i lt = under_own (level_of n T i) i (fathers n acc h (suc i) i (omega arith) lt)
