-- One leaf more: a leader goes to the head of its row's queue, being the westernmost there so far; any other leaf
-- changes nothing, nor does a fork that is marked.
use mathlib.Core.Bool.{Bool, true, false, ◌||◌, true≢false}
use mathlib.Core.List.{List}
use mathlib.Core.Logic.{◌⊎◌, inl, inr, ⊎_elim}
use mathlib.Core.Path.{◌≡◌, refl, ap, sym, ◌∙◌}
use Prim.Native.Nat.{ℕ, ◌+◌, ◌^◌, ◌≤◌, ◌<◌}
use native.Mathlib.Omega.{arith}
use lib.Dec.{eqb}
use lib.ListN.{length, set, length-set}
use lib.Pow.{pow_pos}
use lib.Seq.{get_or-set_same, get_or-set_other, set-get_or}
use borrow.Author.Tests.{eqb-true, eqb-false, eq-eqb, lt-ltb, le-ltb}
use Rattle.base.proofs.BoolLaws.{by_bool, lt_or_ge, or_true}
use Rattle.quad.specs.Numbers.{black, fork_type, top_level}
use Rattle.table.specs.Table.{nodes, node_type, is_fork}
use Rattle.table.specs.Rules.{Accepted, AtLevel}
use Rattle.table.specs.Nodes.{left_of, top_of}
use Rattle.table.proofs.AcceptedLaws.{level_is}
use Rattle.ponds.specs.Chain.{Water}
use Rattle.ponds.specs.Words.{word_of}
use Rattle.ponds_sets.specs.Sets.{leading, Begins}
use Rattle.ponds_sets.specs.Labelled.{Labelled}
use Rattle.ponds_queues.specs.Queues.{row_of, Leads, linked_of, head_of, Ahead, Queued, East, Passed, Room, Stood}
use Rattle.ponds_queues.proofs.WordLaws.{same_or}
use Rattle.ponds_queues.proofs.PlaceLaws.{water_leaf, top_top, leaf_only, begins_own}

pub either : (a b : Bool) → a || b ≡ true → (a ≡ true) ⊎ (b ≡ true)
either true b e = inl refl
either false b e = inr e

neither : (a b : Bool) → a || b ≡ false → (a ≡ false) × (b ≡ false)
neither true b e = absurd (true≢false e)
neither false b e = (refl, e)

-- leaf p's word, and its row's entry, once it stands in its queue where it leads
pub record Stands (W R : List ℕ) (p y : ℕ) (W' R' : List ℕ) : Type 0 where
  pub words : W' ≡ set W p (linked_of (word_of W p) (row_of R y))
  pub rows : R' ≡ set R y (head_of (word_of W p) p (row_of R y))

pub stands : {W R : List ℕ} {p y : ℕ} {W' : List ℕ} {r : ℕ} → Stood W p (row_of R y) W' r → Stands W R p y W' (set R y r)
stands s = record { words = s.words; rows = rw s.head }

-- a node's number is no leader's word, and no leader is the root
pub words_few : {n : ℕ} {T : List ℕ} → Accepted n T → nodes T < leading
words_few acc = omega (arith, acc.sized.few, acc.sized.whole)

pub water_some : {n : ℕ} {T F : List ℕ} → Labelled n T F → (p : ℕ) → Water T p → p ≡ 0 → ⊥
water_some {T = T} r p w z = omega (arith, w.wet, ap (node_type T) z, eqb-true (node_type T 0) fork_type r.sets.root)

module _ {n : ℕ} {T F : List ℕ} {D : ℕ → Bool} {W R : List ℕ} (g : Queued n T F D W R) where
  -- leader p, with the leaders of its row east of it
  module _ (r : Labelled n T F) (p : ℕ) (lp : Leads T F p) (new : D p ≡ false)
      (east : (i : ℕ) → D i ≡ true → top_of n T i ≡ top_of n T p → left_of n T p < left_of n T i) where
    y : ℕ
    y = top_of n T p

    after : List ℕ
    after = set W p (row_of R y)

    rows : List ℕ
    rows = set R y p

    also : ℕ → Bool
    also i = D i || eqb i p

    old_too : (i : ℕ) → D i ≡ true → also i ≡ true
    unfolding also
    old_too i d = rw d

    own_too : also p ≡ true
    unfolding also
    own_too = rw (eq-eqb p p refl) (or_true (D p))

    old_or : (i : ℕ) → also i ≡ true → (D i ≡ true) ⊎ (i ≡ p)
    unfolding also
    old_or i a = ⊎_elim (λ (d : D i ≡ true). inl d) (λ (e : eqb i p ≡ true). inr (eqb-true i p e)) (either (D i) (eqb i p) a)

    is : word_of after p ≡ row_of R y
    unfolding after
    is = get_or-set_same W p (row_of R y) 0 (omega (arith, g.size, lp.water.node))

    same : (i : ℕ) → (i ≡ p → ⊥) → word_of after i ≡ word_of W i
    unfolding after
    same i h = get_or-set_other W p i (row_of R y) 0 h

    kept : (i : ℕ) → D i ≡ true → word_of after i ≡ word_of W i
    kept i d = same i (λ e. true≢false (sym (rw e at d) ∙ new))

    row_is : row_of rows y ≡ p
    unfolding rows y
    row_is = get_or-set_same R (top_of n T p) p 0 (omega (arith, g.tall, top_top n T r.sets.accepted p lp.water.node))

    row_same : (z : ℕ) → (z ≡ y → ⊥) → row_of rows z ≡ row_of R z
    unfolding rows
    row_same z h = get_or-set_other R y z p 0 h

    -- who stands ahead where p does not
    ahead_too : {z x m : ℕ} → (top_of n T p ≡ z → x ≤ left_of n T p → ⊥) → Ahead n T D z x m → Ahead n T also z x m
    ahead_too {z} {x} {m} off a = record {
      none = λ e j b t l. ⊎_elim (λ (d : D j ≡ true). a.none e j d t l) (λ (q : j ≡ p). off (rw q at t) (rw q at l)) (old_or j b);
      some = λ s. let k = a.some s in (old_too m k.0, k.1, k.2);
      first = λ j b t l. ⊎_elim (λ (d : D j ≡ true). a.first j d t l) (λ (q : j ≡ p). absurd (off (rw q at t) (rw q at l))) (old_or j b);
    }

    -- p before those of its row
    own_head : Ahead n T also y 0 p
    unfolding y
    own_head = record {
      none = λ z. absurd (water_some r p lp.water z);
      some = λ s. (own_too, refl, omega arith);
      first = λ j b t l. ⊎_elim (λ (d : D j ≡ true). omega (arith, east j d t)) (λ (q : j ≡ p). rw q (omega arith)) (old_or j b);
    }

    own_next : Ahead n T also y (left_of n T p + 1) (row_of R y)
    unfolding y
    own_next =
        let a = g.heads (top_of n T p) in
        ahead_too (λ t l. omega (arith, l)) (record {
          none = λ e j d t l. a.none e j d t (omega arith);
          some = λ s. let k = a.some s in (k.0, k.1, omega (arith, east (row_of R (top_of n T p)) k.0 k.1));
          first = λ j d t l. a.first j d t (omega arith);
        })

    long : length after ≡ length W
    unfolding after
    long = length-set W p (row_of R y)

    high : length rows ≡ length R
    unfolding rows
    high = length-set R y p

    one_more : Queued n T F also after rows
    unfolding y
    one_more = record {
      size = long ∙ g.size;
      tall = high ∙ g.tall;
      leads = λ i a. ⊎_elim (λ (d : D i ≡ true). g.leads i d) (λ (e : i ≡ p). rw e lp) (old_or i a);
      still = λ i a.
          let z = neither (D i) (eqb i p) (unfold also in a) in
          same i (eqb-false i p z.1) ∙ g.still i z.0;
      heads = λ z.
          ⊎_elim
          (λ (e : z ≡ top_of n T p). rw (e, row_is) own_head)
          (λ (h : z ≡ top_of n T p → ⊥). rw (row_same z h) (ahead_too (λ t l. h (sym t)) (g.heads z)))
          (same_or z (top_of n T p));
      nexts = λ i a.
          ⊎_elim
          (λ (d : D i ≡ true). rw (kept i d) (ahead_too (λ t l. omega (arith, l, east i d (sym t))) (g.nexts i d)))
          (λ (e : i ≡ p). rw (e, is) own_next)
          (old_or i a);
    }

    pub leader_passed : (l : ℕ) → AtLevel n T p l
        → Passed n T F D (left_of n T p) (top_of n T p) l (set W p (row_of R (top_of n T p))) (set R (top_of n T p) p)
    unfolding after rows y
    leader_passed l h = record {
      now = also;
      queued = one_more;
      kept = old_too;
      only = λ i a. ⊎_elim (λ (d : D i ≡ true). inl d) (λ (e : i ≡ p). inr (rw e (begins_own p l))) (old_or i a);
      all = λ i li b.
          let e = leaf_only h (water_leaf T p lp.water.wet) i li.water.node (water_leaf T i li.water.wet) b in
          rw e own_too;
    }

  -- a block that no leader begins in
  pub none_passed : (x y l : ℕ) → ((i : ℕ) → Leads T F i → Begins n T i x y l → ⊥) → Passed n T F D x y l W R
  none_passed x y l h = record {
    now = D;
    queued = g;
    kept = λ i d. d;
    only = λ i d. inl d;
    all = λ i li b. absurd (h i li b);
  }

  -- leaf p, as the code has it stand
  module _ (r : Labelled n T F) {p l y : ℕ} (h : AtLevel n T p l) (f : is_fork T p ≡ false) (e : y ≡ top_of n T p) where
    pub leaf_row : y < 2 ^ top_level
    leaf_row = omega (arith, e, top_top n T r.sets.accepted p h.node)

    pub leaf_room : Room W p
    leaf_room = record {
      node = omega (arith, g.size, h.node);
      few = omega (arith, g.size, words_few r.sets.accepted);
    }

    module _ (east : East n T D (left_of n T p) (top_of n T p) l) where
      leaf_new : D p ≡ false
      leaf_new =
          ⊎_elim
          (λ (d : D p ≡ true). absurd (omega (arith, east p d (omega arith) (omega (arith, pow_pos l)), pow_pos l)))
          (λ (z : D p ≡ false). z)
          (by_bool (D p))

      leaf_leads : leading ≤ word_of W p → Leads T F p
      leaf_leads le =
          let w = g.still p leaf_new in
          ⊎_elim
          (λ (b : eqb (node_type T p) black ≡ true). record { water = record { node = h.node; wet = eqb-true (node_type T p) black b }; high = omega (arith, w) })
          (λ (b : eqb (node_type T p) black ≡ false). absurd (omega (arith, w, r.white p h.node f (eqb-false (node_type T p) black b))))
          (by_bool (eqb (node_type T p) black))

      pub leaf_passed : {W' R' : List ℕ} → Stands W R p y W' R' → Passed n T F D (left_of n T p) (top_of n T p) l W' R'
      unfolding linked_of head_of
      leaf_passed {W'} {R'} a =
          ⊎_elim
          (λ (m : word_of W p < leading).
          let ew : W' ≡ W = a.words ∙ rw (lt-ltb (word_of W p) leading m) (set-get_or W p 0) in
          let er : R' ≡ R = a.rows ∙ rw (lt-ltb (word_of W p) leading m) (set-get_or R y 0) in
          rw (ew, er)
          (none_passed (left_of n T p) (top_of n T p) l (λ i li b.
          let z = leaf_only h f i li.water.node (water_leaf T i li.water.wet) b in
          omega (arith, li.high, ap (word_of F) z, g.still p leaf_new))))
          (λ (m : leading ≤ word_of W p).
          let ew : W' ≡ set W p (row_of R (top_of n T p)) = a.words ∙ rw (le-ltb (word_of W p) leading m, e) in
          let er : R' ≡ set R (top_of n T p) p = a.rows ∙ rw (le-ltb (word_of W p) leading m, e) in
          rw (ew, er)
          (leader_passed r p (leaf_leads m) leaf_new (λ i d t. omega (arith, east i d (omega (arith, t)) (omega (arith, t, pow_pos l)), pow_pos l)) l h))
          (lt_or_ge (word_of W p) leading)

  -- a fork that is marked
  pub marked_passed : Labelled n T F → {p l : ℕ} → AtLevel n T p l → is_fork T p ≡ true → (word_of W p ≡ 0 → ⊥) → Passed n T F D (left_of n T p) (top_of n T p) l W R
  marked_passed r {p} {l} h f some =
      let t = eqb-true (node_type T p) fork_type f in
      let new : D p ≡ false =
      ⊎_elim (λ (d : D p ≡ true). absurd (omega (arith, t, (g.leads p d).water.wet))) (λ (z : D p ≡ false). z) (by_bool (D p)) in
      let w = g.still p new in
      let mark : word_of F p ≡ leading =
      ⊎_elim
      (λ (z : word_of F p ≡ 0). absurd (some (w ∙ z)))
      (λ (z : word_of F p ≡ leading). z)
      (r.dry p h.node (λ b. omega arith)) in
      none_passed (left_of n T p) (top_of n T p) l (λ i li b.
      let k = r.marks p h.node f mark i li.water (rw (level_is h) at b) in
      omega (arith, k.1, li.high))

-- what `stand` leaves, by what its callees say
pub stood : (W : List ℕ) (p first a b : ℕ) → a ≡ linked_of (word_of W p) first → b ≡ head_of (word_of W p) p first → Stood W p first (set W p a) b
stood W p first a b e f = record { words = rw e; head = f }
