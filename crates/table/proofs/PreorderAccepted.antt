-- A table that is the preorder table of a sound tree is accepted, and stands for that tree. Induction on the level; the
-- four sons are one case, son q standing at node `son_node p t q`.
use mathlib.Core.Bool.{Bool, true, false, not, ◌&&◌}
use mathlib.Core.List.{List, [], ◌∷◌, ◌++◌}
use mathlib.Core.Logic.{⊎_elim}
use mathlib.Core.Path.{◌≡◌, refl, ap, sym, ◌∙◌}
use Prim.Native.Nat.{ℕ, zero, suc, ◌+◌, ◌*◌, ◌≤◌, ◌<◌}
use native.Mathlib.Nat.{zero-add, eq-or-lt_of_le, le_of_suc-le-suc, not-suc-le-zero}
use native.Mathlib.Omega.{arith}
use lib.Dec.{leb, eqb}
use lib.ListN.{length, get_or, length-append, get_or-append}
use lib.Seq.{get_or-append-add}
use borrow.Author.Tests.{eq-eqb, ne_eqb, eqb-true, lt-ltb, leb-true}
use Rattle.base.proofs.BoolLaws.{lt_or_ge}
use Rattle.quad.specs.Numbers.{top_level, top_colour, none, fork_type}
use Rattle.quad.specs.Tree.{Tree, leaf, fork, son_of, Within, Reduced, Coloured, size_of}
use Rattle.quad.proofs.TreeLaws.{by_quadrant, each_son, within_son, coloured_son, reduced_son, same_sons, size_pos, size_fits}
use Rattle.table.specs.Table.{nodes, father, son, node_type, is_fork}
use Rattle.table.specs.Rules.{depth_to, all_of, one, father_ok, once_ok, son_alike, mixed_ok, fault_at, Accepted}
use Rattle.table.specs.Links.{SonsIn}
use Rattle.table.specs.Nodes.{tree_at}
use Rattle.table.specs.Preorder.{preorder, preorder_table}
use Rattle.table.proofs.RuleLaws.{depth_root, depth_step, all_at, Placed, leaf_passed, fork_passed}
use Rattle.table.proofs.AcceptedLaws.{tree_leaf, tree_fork, depth_less, Sound}
use Rattle.table.proofs.PreorderLaws.{preorder_length, son_node}

-- the words of xs stand in T from place i on
abbrev At : List ℕ → ℕ → List ℕ → Type 0
At T i xs = (j : ℕ) → j < length xs → get_or T (i + j) 0 ≡ get_or xs j 0

at_first : (T : List ℕ) (i : ℕ) (xs ys : List ℕ) → At T i (xs ++ ys) → At T i xs
at_first T i xs ys h j lt = h j (simp length-append (omega arith)) ∙ get_or-append xs ys 0 j lt

at_rest : (T : List ℕ) (i k : ℕ) (xs ys : List ℕ) → k ≡ i + length xs → At T i (xs ++ ys) → At T k ys
at_rest T i k xs ys e h j lt =
    let s : k + j ≡ i + (length xs + j) = omega arith in
    rw s (h (length xs + j) (simp length-append (omega arith)) ∙ get_or-append-add xs ys j 0)

-- T has the words of t, under father f, from node p on
unfoldable pub Holds : List ℕ → ℕ → ℕ → Tree → Type 0
Holds T f p t = At T (6 * p) (preorder f p t)

module _ (p : ℕ) (t : Tree) where
  node_rises : (i j : ℕ) → i < j → son_node p t i < son_node p t j
  unfolding son_node
  node_rises i zero lt = absurd (not-suc-le-zero lt)
  node_rises i (suc j) lt =
      ⊎_elim
      (λ (e : i ≡ j). rw e (omega (arith, size_pos (son_of t j))))
      (λ (l : i < j). omega (arith, node_rises i j l, size_pos (son_of t j)))
      (eq-or-lt_of_le (le_of_suc-le-suc lt))

  node_above : (q : ℕ) → p < son_node p t q
  unfolding son_node
  node_above zero = omega arith
  node_above (suc q) = omega (arith, node_above q)

  -- a node of the fork's part but p itself stands in one son's part
  which_son : (P : Type 0) (k m : ℕ) → p < k → k < son_node p t m
      → ((q : ℕ) → q < m → son_node p t q ≤ k → k < son_node p t q + size_of (son_of t q) → P) → P
  unfolding son_node
  which_son P k zero lo hi f = absurd (omega arith)
  which_son P k (suc m) lo hi f =
      ⊎_elim
      (λ (l : k < son_node p t m). which_son P k m lo l (λ q h. f q (omega arith)))
      (λ (g : son_node p t m ≤ k). f m (omega arith) g hi)
      (lt_or_ge k (son_node p t m))

nodes_end : (p : ℕ) (a b c d : Tree) → son_node p (fork a b c d) 4 ≡ p + size_of (fork a b c d)
unfolding son_node size_of son_of
nodes_end p a b c d = omega arith

-- the part of son q ends before the fork's part does
pub node_end : (p : ℕ) (a b c d : Tree) (q : ℕ) → q < 4 → son_node p (fork a b c d) q + size_of (son_of (fork a b c d) q) ≤ p + size_of (fork a b c d)
node_end p a b c d q lt =
    let t : Tree = fork a b c d in
    let s : son_node p t (suc q) ≡ son_node p t q + size_of (son_of t q) = unfold son_node in refl in
    ⊎_elim
    (λ (e : suc q ≡ 4). let h : son_node p t (suc q) ≡ son_node p t 4 = ap (son_node p t) e in omega (arith, nodes_end p a b c d))
    (λ (l : suc q < 4). omega (arith, node_rises p t (suc q) 4 l, nodes_end p a b c d))
    (eq-or-lt_of_le lt)

-- the words of a leaf, and of a fork and its parts
pub record LeafAt (T : List ℕ) (f p c : ℕ) : Type 0 where
  pub up : father T p ≡ f
  pub sons : (q : ℕ) → q < 4 → son T p q ≡ none
  pub kind : node_type T p ≡ c

pub record ForkAt (T : List ℕ) (f p : ℕ) (t : Tree) : Type 0 where
  pub up : father T p ≡ f
  pub sons : (q : ℕ) → q < 4 → son T p q ≡ son_node p t q
  pub kind : node_type T p ≡ fork_type
  pub parts : (q : ℕ) → q < 4 → Holds T p (son_node p t q) (son_of t q)

module _ (T : List ℕ) (f p : ℕ) where
  pub leaf_at_lem : (c : ℕ) → Holds T f p (leaf c) → LeafAt T f p c
  unfolding Holds preorder
  leaf_at_lem c h = record {
    up = h 0 (omega arith);
    sons = by_quadrant (λ (q : ℕ). son T p q ≡ none) (h 1 (omega arith)) (h 2 (omega arith)) (h 3 (omega arith)) (h 4 (omega arith));
    kind = h 5 (omega arith);
  }

  pub fork_at : (a b c d : Tree) → Holds T f p (fork a b c d) → ForkAt T f p (fork a b c d)
  unfolding Holds preorder son_node son_of
  fork_at a b c d h =
      let nw = p + 1 in
      let ne = nw + size_of a in
      let sw = ne + size_of b in
      let se = sw + size_of c in
      let wa = preorder p nw a in
      let wb = preorder p ne b in
      let wc = preorder p sw c in
      let wd = preorder p se d in
      let hd = f ∷ nw ∷ ne ∷ sw ∷ se ∷ fork_type ∷ [] in
      let h₀ = at_first T (6 * p) hd (wa ++ (wb ++ (wc ++ wd))) h in
      let h₁ : At T (6 * nw) (wa ++ (wb ++ (wc ++ wd))) = at_rest T (6 * p) (6 * nw) hd (wa ++ (wb ++ (wc ++ wd))) (omega arith) h in
      let h₂ : At T (6 * ne) (wb ++ (wc ++ wd)) = at_rest T (6 * nw) (6 * ne) wa (wb ++ (wc ++ wd)) (omega (arith, preorder_length p nw a)) h₁ in
      let h₃ : At T (6 * sw) (wc ++ wd) = at_rest T (6 * ne) (6 * sw) wb (wc ++ wd) (omega (arith, preorder_length p ne b)) h₂ in
      let h₄ : At T (6 * se) wd = at_rest T (6 * sw) (6 * se) wc wd (omega (arith, preorder_length p sw c)) h₃ in
      record {
        up = h₀ 0 (omega arith);
        sons = by_quadrant (λ (q : ℕ). son T p q ≡ son_node p (fork a b c d) q) (h₀ 1 (omega arith)) (h₀ 2 (omega arith)) (h₀ 3 (omega arith)) (h₀ 4 (omega arith));
        kind = h₀ 5 (omega arith);
        parts =
            by_quadrant
            (λ (q : ℕ). Holds T p (son_node p (fork a b c d) q) (son_of (fork a b c d) q))
            (at_first T (6 * nw) wa (wb ++ (wc ++ wd)) h₁)
            (at_first T (6 * ne) wb (wc ++ wd) h₂)
            (at_first T (6 * sw) wc wd h₃)
            h₄;
      }

  holds_up : (t : Tree) → Holds T f p t → father T p ≡ f
  holds_up (leaf c) h = (leaf_at_lem c h).up
  holds_up (fork a b c d) h = (fork_at a b c d h).up

  -- a node of a leaf's type is that leaf
  holds_leaf : (t : Tree) → Holds T f p t → node_type T p ≤ top_colour → t ≡ leaf (node_type T p)
  holds_leaf (leaf c) h le = ap leaf (sym (leaf_at_lem c h).kind)
  holds_leaf (fork a b c d) h le = absurd (omega (arith, (fork_at a b c d h).kind))

leaf_tree : (T : List ℕ) (l f p c : ℕ) → Holds T f p (leaf c) → c ≤ top_colour → tree_at T l p ≡ leaf c
leaf_tree T l f p c h le =
    let r = leaf_at_lem T f p c h in
    tree_leaf T l p (ne_eqb (node_type T p) fork_type (λ e. omega (arith, r.kind))) ∙ ap leaf r.kind

fork_tree : (T : List ℕ) (l p : ℕ) (a b c d : Tree) → is_fork T p ≡ true
    → ((q : ℕ) → q < 4 → tree_at T l (son T p q) ≡ son_of (fork a b c d) q) → tree_at T (suc l) p ≡ fork a b c d
unfolding son_of
fork_tree T l p a b c d fk h =
    let e₀ : tree_at T l (son T p 0) ≡ a = h 0 (omega arith) in
    let e₁ : tree_at T l (son T p 1) ≡ b = h 1 (omega arith) in
    let e₂ : tree_at T l (son T p 2) ≡ c = h 2 (omega arith) in
    let e₃ : tree_at T l (son T p 3) ≡ d = h 3 (omega arith) in
    tree_fork T l p fk ∙ cc

-- the tree that node p stands for is the tree whose words it has
pub holds_tree : (T : List ℕ) (l f p : ℕ) (t : Tree) → Holds T f p t → Within l t → Coloured t → tree_at T l p ≡ t
unfolding Within Coloured
holds_tree T zero f p (leaf c) h w co = leaf_tree T 0 f p c h co
holds_tree T zero f p (fork a b c d) h w co = absurd w
holds_tree T (suc l) f p (leaf c) h w co = leaf_tree T (suc l) f p c h co
holds_tree T (suc l) f p (fork a b c d) h w co =
    let t : Tree = fork a b c d in
    let r = fork_at T f p a b c d h in
    fork_tree T l p a b c d (eq-eqb (node_type T p) fork_type r.kind) (λ q lt.
    rw (r.sons q lt)
    (holds_tree T l p (son_node p t q) (son_of t q) (r.parts q lt) (within_son l t w q) (each_son Coloured co q)))

-- a node that keeps the six rules has no fault
-- four words that name four nodes in rising order name each of them once
named_once : (g : ℕ → ℕ) → ((i j : ℕ) → i < j → g i < g j) → (q : ℕ) → q < 4
    → one (eqb (g 0) (g q)) + one (eqb (g 1) (g q)) + one (eqb (g 2) (g q)) + one (eqb (g 3) (g q)) ≡ 1
named_once g rise q lt = rw (same 0, same 1, same 2, same 3) (by_quadrant (λ (q : ℕ). one (eqb 0 q) + one (eqb 1 q) + one (eqb 2 q) + one (eqb 3 q) ≡ 1) refl refl refl refl q lt)
  where
    same : (i : ℕ) → eqb (g i) (g q) ≡ eqb i q
    same i =
        ⊎_elim
        (λ (l : i < q). ne_eqb (g i) (g q) (λ e. omega (arith, rise i q l)) ∙ sym (ne_eqb i q (λ e. omega arith)))
        (λ (h : q ≤ i).
        ⊎_elim
        (λ (e : q ≡ i). eq-eqb (g i) (g q) (ap g (sym e)) ∙ sym (eq-eqb i q (sym e)))
        (λ (l : q < i). ne_eqb (g i) (g q) (λ e. omega (arith, rise q i l)) ∙ sym (ne_eqb i q (λ e. omega arith)))
        (eq-or-lt_of_le h))
        (lt_or_ge i q)

module _ (T : List ℕ) (f p : ℕ) (a b c d : Tree) (r : ForkAt T f p (fork a b c d)) where
  fork_here : is_fork T p ≡ true
  fork_here = eq-eqb (node_type T p) fork_type r.kind

  son_up : (q : ℕ) → q < 4 → father T (son_node p (fork a b c d) q) ≡ p
  son_up q lt = holds_up T p (son_node p (fork a b c d) q) (son_of (fork a b c d) q) (r.parts q lt)

  son_placed : (q : ℕ) → q < 4 → Placed T (son_node p (fork a b c d) q)
  unfolding father_ok once_ok
  son_placed q lt =
      let t : Tree = fork a b c d in
      let s : ℕ = son_node p t q in
      let above = node_above p t q in
      let z : eqb s 0 ≡ false = ne_eqb s 0 (λ e. omega arith) in
      let n₀ = r.sons 0 (omega arith) in
      let n₁ = r.sons 1 (omega arith) in
      let n₂ = r.sons 2 (omega arith) in
      let n₃ = r.sons 3 (omega arith) in
      record {
        up = rw (z, son_up q lt, lt-ltb p s above);
        once = rw (z, son_up q lt, n₀, n₁, n₂, n₃, named_once (son_node p t) (node_rises p t) q lt);
      }

  fork_mixed : Reduced (fork a b c d) → mixed_ok T p ≡ true
  unfolding mixed_ok son_alike
  fork_mixed rd = rw fork_here (go (all_of (son_alike T p) 4 0) refl (leb (node_type T (son T p 0)) top_colour) refl)
    where
      go : (x : Bool) → all_of (son_alike T p) 4 0 ≡ x → (y : Bool) → leb (node_type T (son T p 0)) top_colour ≡ y → not (x && y) ≡ true
      go false ex y ey = refl
      go true ex false ey = refl
      go true ex true ey =
          let t : Tree = fork a b c d in
          let k : ℕ = node_type T (son T p 0) in
          let le = leb-true k top_colour ey in
          let leaves : (q : ℕ) → q < 4 → son_of t q ≡ leaf k =
          λ q lt.
          let e : node_type T (son_node p t q) ≡ k = ap (node_type T) (sym (r.sons q lt)) ∙ eqb-true _ _ (rw zero-add at (all_at (son_alike T p) 4 0 q ex lt)) in
          holds_leaf T p (son_node p t q) (son_of t q) (r.parts q lt) (omega arith) ∙ ap leaf e in
          let z : t ≡ leaf k = same_sons t (leaf k) rd (unfold Reduced in tt) (λ q lt. leaves q lt ∙ unfold son_of in refl) in
          absurd (let w : ◌≡◌ {A = ℕ} 0 1 = cc in omega arith)

  fork_sons : p + size_of (fork a b c d) ≤ nodes T → SonsIn T p
  fork_sons room q lt =
      let t : Tree = fork a b c d in
      let e = r.sons q lt in
      record {
        above = rw e (node_above p t q);
        below = rw e (omega (arith, node_end p a b c d q lt, size_pos (son_of t q)));
        up = rw e (son_up q lt);
      }

depth_under : (n : ℕ) (T : List ℕ) (p s : ℕ) → father T s ≡ p → p < s → depth_to T n p < n → depth_to T n s ≡ suc (depth_to T n p)
depth_under zero T p s e lt d = absurd (not-suc-le-zero d)
depth_under (suc k) T p s e lt d =
    depth_step T k s (λ z. omega arith) ∙ ap (λ (x : ℕ). suc (depth_to T k x)) e ∙ ap suc (depth_less T k p (le_of_suc-le-suc d))

leaf_faultless : (n : ℕ) (T : List ℕ) (l f p c : ℕ) → Holds T f p (leaf c) → Sound l (leaf c) → Placed T p → (k : ℕ) → p ≤ k → k < p + size_of (leaf c)
    → fault_at n T k ≡ 0
unfolding size_of Coloured
leaf_faultless n T l f p c h s pl k lo hi =
    let e : p ≡ k = omega arith in
    rw (← e) (
    let r = leaf_at_lem T f p c h in
    leaf_passed n T p (omega (arith, r.kind, s.coloured)) r.sons pl
    )

no_fork : {a b c d : Tree} → Sound 0 (fork a b c d) → ⊥
unfolding Within
no_fork s = s.within

sound_son : (l : ℕ) (t : Tree) → Sound (suc l) t → (q : ℕ) → Sound l (son_of t q)
sound_son l t s q = record { within = within_son l t s.within q; reduced = reduced_son t s.reduced q; coloured = coloured_son t s.coloured q }

-- no node of a sound tree that stands in the table has a fault
holds_faultless : (n : ℕ) (T : List ℕ) (l f p : ℕ) (t : Tree) → Holds T f p t → p + size_of t ≤ nodes T → Sound l t → l + depth_to T n p ≡ n
    → Placed T p → (k : ℕ) → p ≤ k → k < p + size_of t → fault_at n T k ≡ 0
holds_faultless n T zero f p (leaf c) h room s d pl k lo hi = leaf_faultless n T 0 f p c h s pl k lo hi
holds_faultless n T zero f p (fork _ _ _ _) h room s d pl k lo hi = absurd (no_fork s)
holds_faultless n T (suc l) f p (leaf c) h room s d pl k lo hi = leaf_faultless n T (suc l) f p c h s pl k lo hi
holds_faultless n T (suc l) f p (fork a b c d) h room s e pl k lo hi =
    let t : Tree = fork a b c d in
    let r = fork_at T f p a b c d h in
    let deep : depth_to T n p < n = omega arith in
    ⊎_elim
    (λ (z : p ≡ k). rw (← z) (
    fork_passed n T p (fork_here T f p a b c d r) (fork_sons T f p a b c d r room) deep (fork_mixed T f p a b c d r s.reduced) pl
    ))
    (λ (g : p < k).
    which_son p t (fault_at n T k ≡ 0) k 4 g (omega (arith, nodes_end p a b c d)) (λ q lt low high.
    let up = son_up T f p a b c d r q lt in
    let v = depth_under n T p (son_node p t q) up (node_above p t q) deep in
    holds_faultless n T l p (son_node p t q) (son_of t q) (r.parts q lt) (omega (arith, node_end p a b c d q lt)) (sound_son l t s q) (omega arith)
    (son_placed T f p a b c d r q lt) k low high))
    (eq-or-lt_of_le lo)

-- a sound tree's preorder table is accepted, and stands for the tree
module _ (n : ℕ) (t : Tree) (top : n ≤ top_level) (s : Sound n t) where
  whole : Holds (preorder_table t) none 0 t
  unfolding Holds
  whole j lt = rw zero-add

  pub preorder_tree : tree_at (preorder_table t) n 0 ≡ t
  preorder_tree = holds_tree (preorder_table t) n none 0 t whole s.within s.coloured

  pub preorder_nodes : nodes (preorder_table t) ≡ size_of t
  preorder_nodes = omega (arith, preorder_length none 0 t)

  root_placed : Placed (preorder_table t) 0
  unfolding father_ok once_ok
  root_placed = record { up = eq-eqb (father (preorder_table t) 0) none (holds_up (preorder_table t) none 0 t whole); once = refl }

  pub preorder_accepted : Accepted n (preorder_table t)
  preorder_accepted =
      let len = preorder_length none 0 t in
      let all = preorder_nodes in
      record {
        sized = record { level = top; some = omega (arith, size_pos t); few = omega (arith, size_fits n t top s.within); whole = omega arith };
        faultless =
            λ k lt.
            holds_faultless n (preorder_table t) n none 0 t whole (omega arith) s (omega (arith, depth_root (preorder_table t) n)) root_placed k (omega arith)
            (omega arith);
      }
