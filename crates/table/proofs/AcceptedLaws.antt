-- The laws of an accepted table, in any numbering: fathers stand below their sons, each node but the root is exactly
-- one son of its father, depth is at most n, and the tree of a node has no needless fork. No crate above looks at the
-- six rules again.
use mathlib.Core.Bool.{Bool, true, false, not, false≢true}
use mathlib.Core.List.{List}
use mathlib.Core.Logic.{⊎_elim}
use mathlib.Core.Path.{◌≡◌, refl, ap, sym, ◌∙◌}
use Prim.Native.Nat.{ℕ, zero, suc, ◌+◌, ◌-◌, ◌≤◌, ◌<◌}
use native.Mathlib.Nat.{eq-zero-or-pos}
use native.Mathlib.Omega.{arith}
use lib.Dec.{leb, eqb}
use borrow.Author.Tests.{eq-eqb, ne_eqb, eqb-true, ltb-true, leb-true, le-leb}
use Rattle.base.proofs.BoolLaws.{by_bool, or_first, or_second}
use Rattle.quad.specs.Numbers.{top_level, top_colour, fork_type, none}
use Rattle.quad.specs.Tree.{Tree, leaf, fork, colour, Within, Reduced, Coloured, alike}
use Rattle.quad.proofs.TreeLaws.{by_quadrant, alike_leaves}
use Rattle.table.specs.Table.{nodes, father, son, node_type, is_fork}
use Rattle.table.specs.Links.{Rising, SonsIn}
use Rattle.table.specs.Rules.{depth_to, type_ok, father_ok, times_named, once_ok, depth_ok, all_of, son_alike, mixed_ok, Accepted, AtLevel}
use Rattle.table.specs.Nodes.{son_type, tree_at, level_of}
use Rattle.table.proofs.RuleLaws.{depth_none, depth_root, depth_step, sons_in, sons_none, Passed, passed}
use Rattle.table.proofs.FourLaws.{One, one_of_four}

-- the tree of a node, by its type
module _ (T : List ℕ) where
  pub tree_zero : (p : ℕ) → tree_at T 0 p ≡ leaf (node_type T p)
  unfolding tree_at
  tree_zero p = refl

  pub tree_leaf : (l p : ℕ) → is_fork T p ≡ false → tree_at T l p ≡ leaf (node_type T p)
  unfolding tree_at
  tree_leaf zero p f = refl
  tree_leaf (suc l) p f = rw (f, tree_at)

  pub tree_fork : (l p : ℕ) → is_fork T p ≡ true
      → tree_at T (suc l) p ≡ fork (tree_at T l (son T p 0)) (tree_at T l (son T p 1)) (tree_at T l (son T p 2)) (tree_at T l (son T p 3))
  unfolding tree_at
  tree_fork l p f = rw (f, tree_at)

-- the climb, where it stops below its bound, does not depend on the bound
pub depth_le : (T : List ℕ) (k p : ℕ) → depth_to T k p ≤ k
depth_le T zero p = omega (arith, depth_none T p)
depth_le T (suc k) p =
    ⊎_elim
    (λ (z : p ≡ 0). omega (arith, ap (depth_to T (suc k)) z, depth_root T (suc k)))
    (λ (z : 0 < p). omega (arith, depth_step T k p (λ e. omega arith), depth_le T k (father T p)))
    (eq-zero-or-pos p)

pub depth_less : (T : List ℕ) (k p : ℕ) → depth_to T (suc k) p ≤ k → depth_to T k p ≡ depth_to T (suc k) p
depth_less T zero p le = omega (arith, depth_none T p)
depth_less T (suc k) p le =
    ⊎_elim
    (λ (z : p ≡ 0). rw (z, depth_root, depth_root))
    (λ (z : 0 < p).
    let h : p ≡ 0 → ⊥ = λ e. omega arith in
    let up = depth_step T (suc k) p h in
    omega (arith, depth_step T k p h, up, depth_less T k (father T p) (omega (arith, up))))
    (eq-zero-or-pos p)

-- a tree of level l with no needless fork, whose leaves have leaves' colours
pub record Sound (l : ℕ) (t : Tree) : Type 0 where
  pub within : Within l t
  pub reduced : Reduced t
  pub coloured : Coloured t

fork_sound : (l : ℕ) (a b c d : Tree) → alike a b c d ≡ false → Sound l a → Sound l b → Sound l c → Sound l d → Sound (suc l) (fork a b c d)
unfolding Within Reduced Coloured
fork_sound l a b c d e sa sb sc sd = record {
  within = (sa.within, sb.within, sc.within, sd.within);
  reduced = (e, sa.reduced, sb.reduced, sc.reduced, sd.reduced);
  coloured = (sa.coloured, sb.coloured, sc.coloured, sd.coloured);
}

module _ (n : ℕ) (T : List ℕ) (acc : Accepted n T) where
  pass : (p : ℕ) → p < nodes T → Passed n T p
  pass p lt = passed n T p (acc.faultless p lt)

  -- fathers below sons
  pub father_below : (p : ℕ) → p < nodes T → 0 < p → father T p < p
  unfolding father_ok
  father_below p lt pos =
      let u = (pass p lt).up in
      ltb-true _ _ (rw (ne_eqb p 0 (λ e. omega arith)) at u)

  pub rising : (p : ℕ) → p < nodes T → Rising T (p + 1)
  unfolding Rising
  rising p lt k h pos = father_below k (omega arith) pos

  pub root_father : father T 0 ≡ none
  unfolding father_ok
  root_father =
      let u = (pass 0 acc.sized.some).up in
      eqb-true _ _ u

  pub sons_of : (p : ℕ) → p < nodes T → is_fork T p ≡ true → SonsIn T p
  sons_of p lt k = sons_in T p k (pass p lt).sons

  -- a leaf's son words
  pub leaf_sons : (p : ℕ) → p < nodes T → is_fork T p ≡ false → (q : ℕ) → q < 4 → son T p q ≡ none
  leaf_sons p lt k = sons_none T p k (pass p lt).sons

  -- a node but the root is exactly one son of its father
  pub named_once : (p : ℕ) → p < nodes T → 0 < p → times_named T (father T p) p ≡ 1
  unfolding once_ok
  named_once p lt pos = eqb-true _ 1 (or_second (eqb p 0) _ (pass p lt).once (ne_eqb p 0 (λ e. omega arith)))

  one_son : (p : ℕ) → p < nodes T → 0 < p → One (λ q. eqb (son T (father T p) q) p)
  one_son p lt pos = one_of_four (λ q. eqb (son T (father T p) q) p) (named_once p lt pos)

  pub son_type_lt : (p : ℕ) → p < nodes T → 0 < p → son_type T p < 4
  unfolding son_type
  son_type_lt p lt pos = (one_son p lt pos).small

  pub son_son_type : (p : ℕ) → p < nodes T → 0 < p → son T (father T p) (son_type T p) ≡ p
  unfolding son_type
  son_son_type p lt pos = eqb-true _ _ (one_son p lt pos).holds

  pub son_type_only : (p q : ℕ) → p < nodes T → 0 < p → q < 4 → son T (father T p) q ≡ p → q ≡ son_type T p
  unfolding son_type
  son_type_only p q lt pos q4 e = (one_son p lt pos).only q q4 (eq-eqb _ _ e)

  -- its father is a fork
  pub father_fork : (p : ℕ) → p < nodes T → 0 < p → is_fork T (father T p) ≡ true
  father_fork p lt pos = go (is_fork T (father T p)) refl
    where
      go : (b : Bool) → is_fork T (father T p) ≡ b → b ≡ true
      go true e = refl
      go false e =
          let below = father_below p lt pos in
          let few = acc.sized.few in
          absurd (omega (arith, son_son_type p lt pos, leaf_sons (father T p) (omega arith) e (son_type T p) (son_type_lt p lt pos)))

  -- depth at most n, a fork's below n, a son's one more
  pub fork_deep : (p : ℕ) → p < nodes T → is_fork T p ≡ true → depth_to T n p < n
  unfolding depth_ok
  fork_deep p lt k =
      let d = (pass p lt).deep in
      ltb-true _ _ (or_second (not (is_fork T p)) _ d (rw k))

  pub depth_up : (p : ℕ) → p < nodes T → 0 < p → depth_to T n p ≡ suc (depth_to T n (father T p))
  depth_up p lt pos = go n (fork_deep (father T p) (omega (arith, father_below p lt pos)) (father_fork p lt pos))
    where
      go : (m : ℕ) → depth_to T m (father T p) < m → depth_to T m p ≡ suc (depth_to T m (father T p))
      go zero h = absurd (omega arith)
      go (suc k) h = omega (arith, depth_step T k p (λ e. omega arith), depth_less T k (father T p) (omega arith))

  pub depth_son : (p q : ℕ) → p < nodes T → is_fork T p ≡ true → q < 4 → depth_to T n (son T p q) ≡ suc (depth_to T n p)
  depth_son p q lt k q4 =
      let i = sons_of p lt k q q4 in
      depth_up (son T p q) i.below (omega arith) ∙ ap (λ (f : ℕ). suc (depth_to T n f)) i.up

  -- the colour of a leaf
  pub leaf_colour : (p : ℕ) → p < nodes T → is_fork T p ≡ false → node_type T p ≤ top_colour
  unfolding type_ok
  leaf_colour p lt k = leb-true _ _ (or_first (leb (node_type T p) top_colour) (is_fork T p) (pass p lt).kind k)

  pub type_byte : (p : ℕ) → p < nodes T → node_type T p < 256
  type_byte p lt = go (is_fork T p) refl
    where
      go : (b : Bool) → is_fork T p ≡ b → node_type T p < 256
      go true e = omega (arith, eqb-true (node_type T p) fork_type e)
      go false e = omega (arith, leaf_colour p lt e)

  -- four like sons of a fork do not occur
  pub not_alike : (p : ℕ) → p < nodes T → is_fork T p ≡ true → is_fork T (son T p 0) ≡ false
      → ((q : ℕ) → q < 4 → node_type T (son T p q) ≡ node_type T (son T p 0)) → ⊥
  unfolding mixed_ok all_of son_alike
  not_alike p lt f leaf₀ h =
      let m = (pass p lt).mixed in
      let i = sons_of p lt f 0 (omega arith) in
      let t = le-leb (node_type T (son T p 0)) top_colour (leaf_colour (son T p 0) i.below leaf₀) in
      let a : (q : ℕ) → q < 4 → eqb (node_type T (son T p q)) (node_type T (son T p 0)) ≡ true = λ q q4. eq-eqb _ _ (h q q4) in
      false≢true (rw (f, a 0 (omega arith), a 1 (omega arith), a 2 (omega arith), a 3 (omega arith), t) at m)

  -- a node whose tree is a leaf is a leaf
  leaf_node : (l p k : ℕ) → p < nodes T → l + depth_to T n p ≡ n → leaf k ≡ tree_at T l p → (node_type T p ≡ k) × (is_fork T p ≡ false)
  leaf_node l p k lt d e = go (is_fork T p) refl l d e
    where
      go : (b : Bool) → is_fork T p ≡ b → (l : ℕ) → l + depth_to T n p ≡ n → leaf k ≡ tree_at T l p → (node_type T p ≡ k) × (is_fork T p ≡ false)
      go false f l d e = let t = tree_leaf T l p f in ((cc), f)
      go true f zero d e = absurd (omega (arith, fork_deep p lt f))
      go true f (suc l) d e = let t = tree_fork T l p f in absurd (let z : ◌≡◌ {A = ℕ} 0 1 = cc in omega arith)

  fork_mixed : (l p : ℕ) → p < nodes T → is_fork T p ≡ true → suc l + depth_to T n p ≡ n
      → alike (tree_at T l (son T p 0)) (tree_at T l (son T p 1)) (tree_at T l (son T p 2)) (tree_at T l (son T p 3)) ≡ false
  fork_mixed l p lt f d = go (alike (tr 0) (tr 1) (tr 2) (tr 3)) refl
    where
      tr : ℕ → Tree
      tr q = tree_at T l (son T p q)

      go : (b : Bool) → alike (tr 0) (tr 1) (tr 2) (tr 3) ≡ b → b ≡ false
      go false e = refl
      go true e =
          let k : ℕ = colour (tr 0) in
          let h = alike_leaves (tr 0) (tr 1) (tr 2) (tr 3) e in
          let leaves : (q : ℕ) → q < 4 → leaf k ≡ tr q = by_quadrant (λ (q : ℕ). leaf k ≡ tr q) h.0 h.1 h.2 h.3 in
          let at : (q : ℕ) → q < 4 → (node_type T (son T p q) ≡ k) × (is_fork T (son T p q) ≡ false) =
          λ q q4. leaf_node l (son T p q) k (sons_of p lt f q q4).below (omega (arith, depth_son p q lt f q4)) (leaves q q4) in
          absurd (not_alike p lt f (at 0 (omega arith)).1 (λ q q4. (at q q4).0 ∙ sym (at 0 (omega arith)).0))

  -- the tree of a node is of its level, has no needless fork, and leaves of leaves' colours
  leaf_sound : (l p : ℕ) → p < nodes T → is_fork T p ≡ false → Sound l (tree_at T l p)
  leaf_sound l p lt f = rw (tree_leaf T l p f) (unfold Within Reduced Coloured in record { within = tt; reduced = tt; coloured = leaf_colour p lt f })

  pub tree_sound : (l p : ℕ) → p < nodes T → l + depth_to T n p ≡ n → Sound l (tree_at T l p)
  tree_sound zero p lt d =
      ⊎_elim (λ (f : is_fork T p ≡ true). absurd (omega (arith, fork_deep p lt f))) (leaf_sound 0 p lt) (by_bool (is_fork T p))
  tree_sound (suc l) p lt d =
      ⊎_elim
      (λ (f : is_fork T p ≡ true).
      let ih : (q : ℕ) → q < 4 → Sound l (tree_at T l (son T p q)) =
      λ q q4. tree_sound l (son T p q) (sons_of p lt f q q4).below (omega (arith, depth_son p q lt f q4)) in
      rw (tree_fork T l p f) (fork_sound l _ _ _ _ (fork_mixed l p lt f d) (ih 0 (omega arith)) (ih 1 (omega arith)) (ih 2 (omega arith)) (ih 3 (omega arith))))
      (leaf_sound (suc l) p lt)
      (by_bool (is_fork T p))

-- a node whose level is known: the root's is n, a fork's is above 0, and its sons' is one less
pub root_at : {n : ℕ} {T : List ℕ} → Accepted n T → AtLevel n T 0 n
root_at {n} {T} acc = record { accepted = acc; node = acc.sized.some; level = omega (arith, depth_root T n) }

module _ {n : ℕ} {T : List ℕ} {p l : ℕ} (h : AtLevel n T p l) where
  pub level_top : l ≤ top_level
  level_top = omega (arith, h.level, h.accepted.sized.level)

  pub level_is : l ≡ level_of n T p
  level_is = omega (arith, h.level)

  module _ (f : is_fork T p ≡ true) where
    pub fork_above : 0 < l
    fork_above = omega (arith, h.level, fork_deep n T h.accepted p h.node f)

    pub son_at : (q : ℕ) → q < 4 → AtLevel n T (son T p q) (l - 1)
    son_at q q4 = record {
      accepted = h.accepted;
      node = (sons_of n T h.accepted p h.node f q q4).below;
      level = omega (arith, fork_above, h.level, depth_son n T h.accepted p q h.node f q4);
    }
