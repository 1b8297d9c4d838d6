-- A table that is seen whole from its root is faultless, and a faultless one is seen whole (`sound_exactly`). The nodes
-- that are seen are one family: each climbs to the root by links that go back down. So what is seen from the root
-- numbers them, and where that is N, every node is one of them.
use Rattle.std.specs.Prelude.{Ok}
use mathlib.Core.Bool.{Bool, true, false, not, cond, ◌&&◌, ◌||◌, true≢false}
use mathlib.Core.List.{List}
use mathlib.Core.Logic.{⊎_elim}
use mathlib.Core.Path.{◌≡◌, refl, ap, sym, ◌∙◌}
use Prim.Native.Nat.{ℕ, zero, suc, ◌+◌, ◌-◌, ◌≤◌, ◌<◌}
use native.Mathlib.Nat.{zero-add, eq-zero-or-pos}
use native.Mathlib.Omega.{arith}
use lib.Dec.{leb, eqb}
use borrow.Author.Tests.{eq-eqb, ne_eqb, eqb-true, eqb-false, lt-ltb, leb-true}
use Rattle.base.proofs.BoolLaws.{by_bool, or_true}
use Rattle.base.proofs.SumLaws.{sum_full}
use Rattle.quad.proofs.TreeLaws.{by_quadrant}
use Rattle.quad.specs.Tree.{like_types}
use Rattle.base.proofs.CaseLaws.{past, through}
use Rattle.quad.specs.Numbers.{top_colour, fork_type, none}
use Rattle.table.specs.Table.{nodes, father, son, node_type, is_fork}
use Rattle.table.specs.Rules.{depth_to, all_of, one, times_named, father_ok, once_ok, son_alike, mixed_ok, Sized, fault_at, faults_of}
use Rattle.table.specs.Nodes.{first_quadrant}
use Rattle.table.specs.Links.{four_sons}
use Rattle.table_sound.specs.Seen.{like_leaves, fork_ok, leaf_ok, added, seen_of, sound_of}
use Rattle.table.proofs.RuleLaws.{depth_root, depth_step, all_at, Placed, leaf_passed, fork_passed}
use Rattle.table.proofs.FourLaws.{one_le, one_of_four}
use Rattle.table.proofs.CheckLaws.{from_sound_all}
use Rattle.table.proofs.AcceptedLaws.{depth_le}
use Rattle.table.proofs.FamilyLaws.{Family, family_sum}
use Rattle.table_sound.proofs.SeenLaws.{leaf_words_of, sons_seen, seen_leaf, seen_no_leaf, seen_low, seen_unfit, seen_fork, Apart, SonsFit, sons_fit}

-- what is added up is more than nothing only if each part is
some_part : (x y : ℕ) → 0 < cond (eqb x 0) 0 y → (0 < x) × (cond (eqb x 0) 0 y ≡ y)
some_part x y h =
    ⊎_elim
    (λ (e : eqb x 0 ≡ true). let z : ◌<◌ 0 0 = rw e at h in absurd (omega arith))
    (λ (e : eqb x 0 ≡ false). (omega (arith, eqb-false x 0 e), rw e))
    (by_bool (eqb x 0))

some_added : (g : ℕ → ℕ) → 0 < added g 4 0 1
    → (0 < g 0) × (0 < g 1) × (0 < g 2) × (0 < g 3) × (added g 4 0 1 ≡ 1 + (g 0 + g 1 + g 2 + g 3))
unfolding added
some_added g h =
    let a = some_part (g 0) _ h in
    let b = some_part (g 1) _ (rw a.1 at h) in
    let b' = a.1 ∙ b.1 in
    let c = some_part (g 2) _ (rw b' at h) in
    let c' = b' ∙ c.1 in
    let d = some_part (g 3) _ (rw c' at h) in
    let d' = c' ∙ d.1 in
    (a.0, b.0, c.0, d.0, d' ∙ omega arith)

flip : (a b : ℕ) → eqb a b ≡ false → eqb b a ≡ false
flip a b e = ne_eqb b a (λ d. eqb-false a b e (sym d))

-- one of four different numbers is one of them once
abbrev times : ℕ → ℕ → ℕ → ℕ → ℕ → ℕ
times a b c d s = one (eqb a s) + one (eqb b s) + one (eqb c s) + one (eqb d s)

once_apart : (a b c d : ℕ) → Apart a b c d → (times a b c d a ≡ 1) × (times a b c d b ≡ 1) × (times a b c d c ≡ 1) × (times a b c d d ≡ 1)
once_apart a b c d h = (
  rw (eq-eqb a a refl, flip a b h.ab, flip a c h.ac, flip a d h.ad),
  rw (h.ab, eq-eqb b b refl, flip b c h.bc, flip b d h.bd),
  rw (h.ac, h.bc, eq-eqb c c refl, flip c d h.cd),
  rw (h.ad, h.bd, h.cd, eq-eqb d d refl),
)

-- a fork or a leaf that is seen
record ForkSeen (T : List ℕ) (l p : ℕ) : Type 0 where
  high : 0 < l
  fit : SonsFit T p
  sons : (q : ℕ) → q < 4 → 0 < seen_of T (l - 1) (son T p q)
  is : seen_of T l p ≡ 1 + (seen_of T (l - 1) (son T p 0) + seen_of T (l - 1) (son T p 1) + seen_of T (l - 1) (son T p 2) + seen_of T (l - 1) (son T p 3))

module _ (T : List ℕ) (l p : ℕ) (h : 0 < seen_of T l p) where
  fork_seen : is_fork T p ≡ true → ForkSeen T l p
  fork_seen f =
      let high : l ≡ 0 → ⊥ = λ e. omega (arith, seen_low T l p f e) in
      let ok : fork_ok T p ≡ true = ⊎_elim (λ e. e) (λ (e : fork_ok T p ≡ false). absurd (omega (arith, seen_unfit T l p f e))) (by_bool (fork_ok T p)) in
      let e = seen_fork T l p f high ok in
      let a = some_added (sons_seen T (l - 1) p) (rw e h) in
      record {
        high = omega arith;
        fit = sons_fit T p ok;
        sons = by_quadrant (λ (q : ℕ). 0 < seen_of T (l - 1) (son T p q)) a.0 a.1 a.2 a.3;
        is = sym e ∙ a.4;
      }

  leaf_seen : is_fork T p ≡ false → (leaf_ok T p ≡ true) × (seen_of T l p ≡ 1)
  leaf_seen f =
      let ok : leaf_ok T p ≡ true = ⊎_elim (λ e. e) (λ (e : leaf_ok T p ≡ false). absurd (omega (arith, seen_no_leaf T l p f e))) (by_bool (leaf_ok T p)) in
      (ok, seen_leaf T l p f ok)

or_last : (a b : Bool) → b ≡ true → a || b ≡ true
or_last a b e = rw e (or_true a)

-- sons that are not like leaves keep rule 6
mixed : (T : List ℕ) (p : ℕ) → like_leaves T (four_sons T p) ≡ false → mixed_ok T p ≡ true
unfolding mixed_ok like_leaves four_sons like_types son_alike
mixed T p e = or_last (not (is_fork T p)) _ (go (all_of (son_alike T p) 4 0) refl (leb (node_type T (son T p 0)) top_colour) refl)
  where
    go : (x : Bool) → all_of (son_alike T p) 4 0 ≡ x → (y : Bool) → leb (node_type T (son T p 0)) top_colour ≡ y → not (x && y) ≡ true
    go false ex y ey = refl
    go true ex false ey = refl
    go true ex true ey =
        let le = leb-true (node_type T (son T p 0)) top_colour ey in
        let same : (q : ℕ) → q < 4 → eqb (node_type T (son T p 0)) (node_type T (son T p q)) ≡ true =
        λ q q4. eq-eqb _ _ (sym (eqb-true (node_type T (son T p q)) (node_type T (son T p 0)) (rw zero-add at (all_at (son_alike T p) 4 0 q ex q4)))) in
        let z = ne_eqb (node_type T (son T p 0)) fork_type (λ h. omega arith) in
        let w : true ≡ false = rw (z, same 1 (omega arith), same 2 (omega arith), same 3 (omega arith)) at e in
        absurd (true≢false w)

-- the nodes k links below the root: a fork's son that is named once, below one that is k - 1 links below
module _ (T : List ℕ) where
  named : ℕ → Bool
  named s = cond (is_fork T (father T s)) (eqb (times_named T (father T s) s) 1) false

  on : ℕ → ℕ → Bool
  on zero s = eqb s 0
  on (suc k) s = cond (eqb s 0) false (cond (named s) (on k (father T s)) false)

  record On (k s : ℕ) : Type 0 where
    other : s ≡ 0 → ⊥
    fork : is_fork T (father T s) ≡ true
    once : times_named T (father T s) s ≡ 1
    up : on k (father T s) ≡ true

  on_up : (k s : ℕ) → on (suc k) s ≡ true → On k s
  unfolding on named
  on_up k s e =
      let a = past (eqb s 0) _ e in
      let b = through (named s) _ a.1 in
      let c = through (is_fork T (father T s)) _ b.0 in
      record { other = eqb-false s 0 a.0; fork = c.0; once = eqb-true _ 1 c.1; up = b.1 }

  on_down : (k s : ℕ) → On k s → on (suc k) s ≡ true
  unfolding on named
  on_down k s o = rw (ne_eqb s 0 o.other, o.fork, eq-eqb _ 1 o.once, o.up)

  -- so far is their depth
  on_depth : (k m s : ℕ) → on k s ≡ true → k ≤ m → depth_to T m s ≡ k
  unfolding on
  on_depth zero m s e le = rw (eqb-true s 0 e) (depth_root T m)
  on_depth (suc k) zero s e le = absurd (omega arith)
  on_depth (suc k) (suc m) s e le =
      let o = on_up k s e in
      depth_step T m s o.other ∙ ap suc (on_depth k m (father T s) o.up (omega arith))

module _ (n : ℕ) (T : List ℕ) (sz : Sized n T) (whole : sound_of n T ≡ true) where
  root_none : father T 0 ≡ none
  unfolding sound_of
  root_none = eqb-true _ none (through (eqb (father T 0) none) _ whole).0

  all_seen : nodes T ≡ seen_of T n 0
  unfolding sound_of
  all_seen = eqb-true _ _ (through (eqb (father T 0) none) _ whole).1

  -- a node k links below the root is seen, at the level n - k
  on_seen : (k s : ℕ) → on T k s ≡ true → k ≤ n → (s < nodes T) × (0 < seen_of T (n - k) s)
  unfolding on
  on_seen zero s e le =
      let z : s ≡ 0 = eqb-true s 0 e in
      let l : n - 0 ≡ n = omega arith in
      rw (z, l) (sz.some, omega (arith, sz.some, all_seen))
  on_seen (suc k) s e le =
      let o = on_up T k s e in
      let u = on_seen k (father T s) o.up (omega arith) in
      let f = fork_seen T (n - k) (father T s) u.1 o.fork in
      let w = one_of_four (λ q. eqb (son T (father T s) q) s) o.once in
      let d : son T (father T s) (first_quadrant (λ q. eqb (son T (father T s) q) s)) ≡ s = eqb-true _ _ w.holds in
      let l : n - suc k ≡ n - k - 1 = omega arith in
      rw (l, ← d) ((f.fit.sons _ w.small).below, f.sons _ w.small)

  on_root : on T 0 0 ≡ true
  unfolding on
  on_root = refl

  -- the family of those that are seen
  seen : ℕ → Bool
  seen s = on T (depth_to T n s) s

  on_seen_at : (k s : ℕ) → on T k s ≡ true → k ≤ n → seen s ≡ true
  unfolding seen
  on_seen_at k s e le = rw (on_depth T k n s e le) e

  at : (s : ℕ) → seen s ≡ true → 0 < seen_of T (n - depth_to T n s) s
  unfolding seen
  at s v = (on_seen (depth_to T n s) s v (depth_le T n s)).1

  at_up : (s : ℕ) → 0 < s → seen s ≡ true → (k : ℕ) × (suc k ≡ depth_to T n s) × On T k s
  unfolding seen on
  at_up s pos v = go (depth_to T n s) refl v
    where
      go : (m : ℕ) → m ≡ depth_to T n s → on T m s ≡ true → (k : ℕ) × (suc k ≡ depth_to T n s) × On T k s
      go zero e o = absurd (omega (arith, eqb-true s 0 o))
      go (suc k) e o = (k, e, on_up T k s o)

  -- a fork's sons are seen one link further down
  down : (p : ℕ) → seen p ≡ true → is_fork T p ≡ true → (q : ℕ) → q < 4
      → (seen (son T p q) ≡ true) × (depth_to T n (son T p q) ≡ suc (depth_to T n p))
  unfolding seen
  down p v f q q4 =
      let k : ℕ = depth_to T n p in
      let h = fork_seen T (n - k) p (at p v) f in
      let i = h.fit.sons q q4 in
      let a = once_apart _ _ _ _ h.fit.apart in
      let t : times_named T p (son T p q) ≡ 1 = by_quadrant (λ (j : ℕ). times_named T p (son T p j) ≡ 1) a.0 a.1 a.2 a.3 q q4 in
      let o : On T k (son T p q) = record { other = λ e. omega arith; fork = rw i.up f; once = rw i.up t; up = rw i.up v } in
      let on' = on_down T k (son T p q) o in
      let le : suc k ≤ n = omega (arith, h.high) in
      (on_seen_at (suc k) (son T p q) on' le, on_depth T (suc k) n (son T p q) on' le)

  family : Family T seen
  unfolding seen
  family = record {
    some = sz.some;
    root = omega (arith, sz.few, root_none);
    above = λ s ls pos v.
        let u = at_up s pos v in
        let le : u.0 ≤ n = omega (arith, u.1, depth_le T n s) in record {
          node = (on_seen u.0 (father T s) u.2.up le).0;
          family = on_seen_at u.0 (father T s) u.2.up le;
          fork = u.2.fork;
          once = u.2.once;
        };
    below = λ p lt v f q q4. let i = (fork_seen T (n - depth_to T n p) p (at p v) f).fit.sons q q4 in record { node = i.below; up = i.up };
  }

  -- what is seen from a node of it
  held : ℕ → ℕ
  held p = cond (seen p) (seen_of T (n - depth_to T n p) p) 0

  held_at : (p : ℕ) → seen p ≡ true → held p ≡ seen_of T (n - depth_to T n p) p
  unfolding held
  held_at p v = rw v

  held_son : (p : ℕ) → seen p ≡ true → is_fork T p ≡ true → (q : ℕ) → q < 4 → held (son T p q) ≡ seen_of T (n - depth_to T n p - 1) (son T p q)
  held_son p v f q q4 =
      let d = down p v f q q4 in
      let l : n - depth_to T n (son T p q) ≡ n - depth_to T n p - 1 = omega (arith, d.1) in
      held_at (son T p q) d.0 ∙ ap (λ (k : ℕ). seen_of T k (son T p q)) l

  held_none : (p : ℕ) → seen p ≡ false → held p ≡ 0
  unfolding held
  held_none p v = rw v

  held_fork : (p : ℕ) → p < nodes T → seen p ≡ true → is_fork T p ≡ true
      → held p ≡ one (seen p) + (held (son T p 0) + held (son T p 1) + held (son T p 2) + held (son T p 3))
  held_fork p lt v f =
      let o : (q : ℕ) → q < 4 → held (son T p q) ≡ seen_of T (n - depth_to T n p - 1) (son T p q) = held_son p v f in
      let is = (fork_seen T (n - depth_to T n p) p (at p v) f).is in
      let own : one (seen p) ≡ 1 = rw v in
      omega (arith, held_at p v, own, is, o 0 (omega arith), o 1 (omega arith), o 2 (omega arith), o 3 (omega arith))

  held_leaf : (p : ℕ) → p < nodes T → seen p ≡ true → is_fork T p ≡ false → held p ≡ one (seen p)
  held_leaf p lt v f = held_at p v ∙ (leaf_seen T (n - depth_to T n p) p (at p v) f).1 ∙ sym (let own : one (seen p) ≡ 1 = rw v in own)

  held_root : held 0 ≡ nodes T
  held_root =
      let l : n - depth_to T n 0 ≡ n = omega (arith, depth_root T n) in
      held_at 0 (on_seen_at 0 0 on_root (omega arith)) ∙ ap (λ (k : ℕ). seen_of T k 0) l ∙ sym all_seen

  -- all nodes are seen
  every : (p : ℕ) → p < nodes T → seen p ≡ true
  every p lt =
      let total = family_sum T seen family held held_none (λ s. one (seen s)) held_fork held_leaf (λ s v. rw v) in
      let e = sum_full (λ s. one (seen s)) (nodes T) (λ s ls. one_le (seen s)) (sym total ∙ held_root) p lt in
      ⊎_elim (λ v. v) (λ (v : seen p ≡ false). let z : ◌≡◌ {A = ℕ} 0 1 = rw v at e in absurd (omega arith)) (by_bool (seen p))

  -- a node that is seen stands where its father names it
  placed : (p : ℕ) → p < nodes T → seen p ≡ true → Placed T p
  unfolding father_ok once_ok
  placed p lt v =
      ⊎_elim
      (λ (z : p ≡ 0). rw z (record { up = eq-eqb _ none root_none; once = refl }))
      (λ (pos : 0 < p).
      let u = family.above p lt pos v in
      let w = one_of_four (λ q. eqb (son T (father T p) q) p) u.once in
      let d : son T (father T p) (first_quadrant (λ q. eqb (son T (father T p) q) p)) ≡ p = eqb-true _ _ w.holds in
      let i = (fork_seen T (n - depth_to T n (father T p)) (father T p) (at (father T p) u.family) u.fork).fit.sons _ w.small in
      let z : eqb p 0 ≡ false = ne_eqb p 0 (λ e. omega arith) in
      record { up = rw (z, lt-ltb (father T p) p (rw d at i.above)); once = rw (z, eq-eqb _ 1 u.once) })
      (eq-zero-or-pos p)

  -- so it has no fault
  pub sound_faultless : (p : ℕ) → p < nodes T → fault_at n T p ≡ 0
  sound_faultless p lt =
      let v = every p lt in
      let h = at p v in
      let pl = placed p lt v in
      ⊎_elim
      (λ (f : is_fork T p ≡ true).
      let s = fork_seen T (n - depth_to T n p) p h f in
      fork_passed n T p f s.fit.sons (omega (arith, s.high)) (mixed T p s.fit.unlike) pl)
      (λ (f : is_fork T p ≡ false).
      let l = leaf_words_of T p (leaf_seen T (n - depth_to T n p) p h f).0 in
      leaf_passed n T p l.0 l.1 pl)
      (by_bool (is_fork T p))

-- the check's answer to a table that is seen whole
pub sound_answered : (n : ℕ) (T : List ℕ) (u : Bool) (N : ℕ) → Sized n T → u ≡ sound_of n T → u ≡ true → N ≡ nodes T → Ok N ≡ faults_of n T
unfolding faults_of
sound_answered n T u N sz e h d =
    let s = from_sound_all n T (nodes T) 0 (λ i le lt. sound_faultless n T sz (sym e ∙ h) i (omega arith)) in
    ap Ok (d ∙ sym (zero-add (nodes T))) ∙ sym s
