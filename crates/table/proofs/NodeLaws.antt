-- Every node of an accepted table stands at the end of exactly one path from the root, as deep as the node; so its
-- level, its block and its picture are defined. A node's block is what `path_to` finds by climbing and what `holder`
-- finds by descending.
use mathlib.Core.Bool.{true, false}
use mathlib.Core.List.{List, [], ◌∷◌}
use mathlib.Core.Logic.{⊎_elim}
use mathlib.Core.Path.{◌≡◌, refl, ap, sym, ◌∙◌}
use Prim.Native.Nat.{ℕ, zero, suc, ◌+◌, ◌≤◌, ◌<◌}
use native.Mathlib.Nat.{eq-zero-or-pos}
use native.Mathlib.Omega.{arith}
use lib.ListN.{length}
use borrow.Author.Tests.{ne_eqb}
use Rattle.base.proofs.BoolLaws.{by_bool}
use Rattle.quad.specs.Block.{Quadrants}
use Rattle.table.specs.Table.{nodes, father, son, is_fork}
use Rattle.table.specs.Links.{SonIn}
use Rattle.table.specs.Rules.{depth_to, Accepted}
use Rattle.table.specs.Nodes.{son_type, path_to, holder, Real}
use Rattle.table.proofs.RuleLaws.{depth_root}
use Rattle.table.proofs.AcceptedLaws.{
  father_below,
  sons_of,
  son_type_lt,
  son_son_type,
  son_type_only,
  father_fork,
  depth_le,
  depth_up,
  depth_son,
}

module _ (T : List ℕ) where
  pub path_root : (k : ℕ) → path_to T k 0 ≡ []
  unfolding path_to
  path_root zero = refl
  path_root (suc k) = refl

  pub path_step : (k p : ℕ) → (p ≡ 0 → ⊥) → path_to T (suc k) p ≡ son_type T p ∷ path_to T k (father T p)
  unfolding path_to
  path_step k p h = rw (ne_eqb p 0 h, path_to)

  pub holder_root : holder T [] ≡ 0
  unfolding holder
  holder_root = refl

  pub holder_fork : (q : ℕ) (qs : List ℕ) → is_fork T (holder T qs) ≡ true → holder T (q ∷ qs) ≡ son T (holder T qs) q
  unfolding holder
  holder_fork q qs f = rw (f, holder)

  pub holder_leaf : (q : ℕ) (qs : List ℕ) → is_fork T (holder T qs) ≡ false → holder T (q ∷ qs) ≡ holder T qs
  unfolding holder
  holder_leaf q qs f = rw (f, holder)

  pub real_quadrants : (π : List ℕ) → Real T π → Quadrants π
  unfolding Real Quadrants
  real_quadrants [] r = tt
  real_quadrants (q ∷ qs) r = (r.0, real_quadrants qs r.2)

-- the path of node p, climbed with the bound k
pub record PathOf (n : ℕ) (T : List ℕ) (k p : ℕ) : Type 0 where
  pub real : Real T (path_to T k p)
  pub ends : holder T (path_to T k p) ≡ p
  pub size : length (path_to T k p) ≡ depth_to T n p

-- the node at the end of a path of forks
pub record NodeAt (n : ℕ) (T : List ℕ) (π : List ℕ) : Type 0 where
  pub below : holder T π < nodes T
  pub deep : depth_to T n (holder T π) ≡ length π
  pub back : (k : ℕ) → length π ≤ k → path_to T k (holder T π) ≡ π

module _ (n : ℕ) (T : List ℕ) (acc : Accepted n T) where
  root_path : (k p : ℕ) → p ≡ 0 → PathOf n T k p
  unfolding Real
  root_path k p z =
      rw z (record { real = rw (path_root T k) tt; ends = rw (path_root T k) (holder_root T); size = rw (path_root T k) (sym (depth_root T n)) })

  step_path : (k p : ℕ) → p < nodes T → 0 < p → PathOf n T k (father T p) → PathOf n T (suc k) p
  unfolding Real
  step_path k p lt pos ih =
      let s = path_step T k p (λ e. omega arith) in
      let f : is_fork T (holder T (path_to T k (father T p))) ≡ true = rw ih.ends (father_fork n T acc p lt pos) in
      record {
        real = rw s (son_type_lt n T acc p lt pos, f, ih.real);
        ends = rw s (holder_fork T (son_type T p) (path_to T k (father T p)) f ∙ rw ih.ends (son_son_type n T acc p lt pos));
        size = rw s (ap suc ih.size ∙ sym (depth_up n T acc p lt pos));
      }

  -- each node has a path
  path_within : (k p : ℕ) → p < nodes T → depth_to T n p ≤ k → PathOf n T k p
  path_within zero p lt le =
      ⊎_elim (root_path 0 p) (λ (pos : 0 < p). absurd (omega (arith, depth_up n T acc p lt pos))) (eq-zero-or-pos p)
  path_within (suc k) p lt le =
      ⊎_elim (root_path (suc k) p)
      (λ (pos : 0 < p).
      let up = depth_up n T acc p lt pos in
      step_path k p lt pos (path_within k (father T p) (omega (arith, father_below n T acc p lt pos)) (omega (arith, up))))
      (eq-zero-or-pos p)

  pub path_of_lem : (p : ℕ) → p < nodes T → PathOf n T n p
  path_of_lem p lt = path_within n p lt (depth_le T n p)

  -- each path of forks has its node
  pub node_at : (π : List ℕ) → Real T π → NodeAt n T π
  unfolding Real
  node_at [] r = record {
    below = rw (holder_root T) acc.sized.some;
    deep = rw (holder_root T) (depth_root T n);
    back = λ k le. rw (holder_root T) (path_root T k);
  }
  node_at (q ∷ qs) r =
      let ih = node_at qs r.2 in
      let p : ℕ = holder T qs in
      let e = holder_fork T q qs r.1 in
      let i = sons_of n T acc p ih.below r.1 q r.0 in
      let d = depth_son n T acc p q ih.below r.1 r.0 in
      record { below = rw e i.below; deep = rw e (d ∙ ap suc ih.deep); back = rw e (back ih i) }
    where
      back : NodeAt n T qs → SonIn T (holder T qs) q → (k : ℕ) → suc (length qs) ≤ k → path_to T k (son T (holder T qs) q) ≡ q ∷ qs
      back ih i zero le = absurd (omega arith)
      back ih i (suc k) le =
          let s : ℕ = son T (holder T qs) q in
          let st = path_step T k s (λ e. omega arith) in
          let t : q ≡ son_type T s = son_type_only n T acc s q i.below (omega arith) r.0 (ap (λ (f : ℕ). son T f q) i.up) in
          let b : path_to T k (father T s) ≡ qs = ap (path_to T k) i.up ∙ ih.back k (omega arith) in
          cc

  -- and no two paths of forks end at one node
  pub path_unique : (π ρ : List ℕ) → Real T π → Real T ρ → holder T π ≡ holder T ρ → π ≡ ρ
  path_unique π ρ r s e =
      let m : ℕ = length π + length ρ in
      sym ((node_at π r).back m (omega arith)) ∙ ap (path_to T m) e ∙ (node_at ρ s).back m (omega arith)

  -- whatever block is asked for, a node holds it
  pub holder_below : (π : List ℕ) → Quadrants π → holder T π < nodes T
  unfolding Quadrants
  holder_below [] h = rw (holder_root T) acc.sized.some
  holder_below (q ∷ qs) h =
      let ih = holder_below qs h.1 in
      ⊎_elim
      (λ (f : is_fork T (holder T qs) ≡ true). rw (holder_fork T q qs f) (sons_of n T acc (holder T qs) ih f q h.0).below)
      (λ (f : is_fork T (holder T qs) ≡ false). rw (holder_leaf T q qs f) ih)
      (by_bool (is_fork T (holder T qs)))
