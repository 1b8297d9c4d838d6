-- Sets of labelled leaves, for any leaders that fit the words: a word may go to a leaf of its set that begins earlier,
-- a leader under another that begins earlier, and a leaf that the walk comes to into a set or into one of its own.
use mathlib.Core.Bool.{cond}
use mathlib.Core.List.{List}
use mathlib.Core.Logic.{⊎_elim}
use mathlib.Core.Path.{◌≡◌, refl, ap, sym, ◌∙◌}
use Prim.Native.Nat.{ℕ, ◌≤◌, ◌<◌}
use native.Mathlib.Omega.{arith}
use lib.Dec.{eqb}
use lib.ListN.{length, set, length-set}
use lib.Seq.{get_or-set_same, get_or-set_other}
use borrow.Author.Tests.{eqb-true, eq-eqb, ne_eqb}
use Rattle.base.proofs.BoolLaws.{lt_or_ge}
use Rattle.quad.specs.Numbers.{fork_type}
use Rattle.table.specs.Table.{nodes, node_type}
use Rattle.ponds.specs.Chain.{Water, Chain}
use Rattle.ponds.specs.Words.{word_of}
use Rattle.ponds.proofs.ChainLaws.{chain_joined}
use Rattle.ponds.proofs.NodeLaws.{same_or_not}
use Rattle.ponds_sets.specs.Sets.{leading, place_of, Placed, Sets, Bare, Dark, as_before, none, marked, Further}

-- the words with p's word set to v
pub record Changed (W : List ℕ) (p v : ℕ) (W' : List ℕ) : Type 0 where
  pub long : length W' ≡ length W
  pub here : word_of W' p ≡ v
  pub rest : (i : ℕ) → (i ≡ p → ⊥) → word_of W' i ≡ word_of W i

pub changed : (W : List ℕ) (p v : ℕ) → p < length W → Changed W p v (set W p v)
changed W p v lt = record {
  long = length-set W p v;
  here = get_or-set_same W p v 0 lt;
  rest = λ i z. get_or-set_other W p i v 0 z;
}

module _ {n : ℕ} {T W : List ℕ} {lead : ℕ → ℕ} (s : Sets n T W lead) where
  -- a node's number is no leader's word
  pub few : nodes T < leading
  few = omega (arith, s.accepted.sized.few, s.accepted.sized.whole)

  -- a placed leaf is a node, and its word is one
  pub within : (p : ℕ) → Placed T W p → p < length W
  within p h = omega (arith, h.water.node, s.each)

  -- a leader's word is its own place
  pub leads : (p : ℕ) → Placed T W p → lead p ≡ p → leading ≤ word_of W p
  leads p h e =
      ⊎_elim
      (λ (l : word_of W p < leading).
      let o = s.on p h l in
      absurd (omega (arith, o.2, s.first (word_of W p) o.0, ap (place_of n T) (o.1 ∙ e))))
      (λ (g : leading ≤ word_of W p). g)
      (lt_or_ge (word_of W p) leading)

  -- nothing changed
  pub further_none : Further n T W lead W lead
  further_none = record { sets = s; placed = λ i h. h; linked = λ i h l. l; together = λ i j h k e. e; dark = λ i z. as_before refl }

-- what is bare stays so
pub bare_still : {n : ℕ} {T W W' : List ℕ} {f g : ℕ → ℕ} {x y l : ℕ} → Further n T W f W' g → Bare n T W x y l → Bare n T W' x y l
bare_still m b i w h = let k = b i w h in (m.placed i k.0, m.linked i k.0 k.1)

dark_on : {n : ℕ} {T A B C : List ℕ} {f g : ℕ → ℕ} {i : ℕ} → Further n T B f C g → Dark n T A B i → Dark n T B C i → Dark n T A C i
dark_on m (as_before a) (as_before b) = as_before (b ∙ a)
dark_on m (none a) (as_before b) = none (b ∙ a)
dark_on m (marked k a h) (as_before b) = marked k (b ∙ a) (bare_still m h)
dark_on m d (none b) = none b
dark_on m d (marked k b h) = marked k b h

-- one after the other
pub further_on : {n : ℕ} {T A B C : List ℕ} {f g h : ℕ → ℕ} → Further n T A f B g → Further n T B g C h → Further n T A f C h
further_on a b = record {
  sets = b.sets;
  placed = λ i p. b.placed i (a.placed i p);
  linked = λ i p l. b.linked i (a.placed i p) (a.linked i p l);
  together = λ i j p q e. b.together i j (a.placed i p) (a.placed j q) (a.together i j p q e);
  dark = λ i z. dark_on b (a.dark i z) (b.dark i z);
}

-- a black leaf is not the root
pub not_root : {n : ℕ} {T W : List ℕ} {lead : ℕ → ℕ} → Sets n T W lead → (p : ℕ) → Water T p → p ≡ 0 → ⊥
not_root {T = T} s p w e = omega (arith, w.wet, ap (node_type T) e, eqb-true (node_type T 0) fork_type s.root)

-- one word is set, and what is placed is the same as before
module _ {T W W' : List ℕ} {p v : ℕ} (c : Changed W p v W') where
  pub other_placed : (i : ℕ) → (i ≡ p → ⊥) → Placed T W i → Placed T W' i
  other_placed i z h = record { water = h.water; some = λ e. h.some (sym (c.rest i z) ∙ e) }

  pub other_was : (i : ℕ) → (i ≡ p → ⊥) → Placed T W' i → Placed T W i
  other_was i z h = record { water = h.water; some = λ e. h.some (c.rest i z ∙ e) }

  pub placed_still : (v ≡ 0 → ⊥) → (i : ℕ) → Placed T W i → Placed T W' i
  placed_still some i h =
      same_or_not i p (λ e. record { water = h.water; some = λ z. some (sym c.here ∙ ap (word_of W') (sym e) ∙ z) }) (λ z. other_placed i z h)

  pub placed_was : Placed T W p → (i : ℕ) → Placed T W' i → Placed T W i
  placed_was hp i h = same_or_not i p (λ e. rw e hp) (λ z. other_was i z h)

-- the word of p, which leads on, goes to r, an earlier leaf of its set
module _ {n : ℕ} {T W W' : List ℕ} {lead : ℕ → ℕ} {p r : ℕ} (s : Sets n T W lead) (c : Changed W p r W') (hp : Placed T W p) (hr : Placed T W r)
    (one : lead r ≡ lead p) (early : place_of n T r < place_of n T p) where
  still : (i : ℕ) → Placed T W i → Placed T W' i
  still = placed_still c (not_root s r hr.water)

  was : (i : ℕ) → Placed T W' i → Placed T W i
  was = placed_was c hp

  shorter_sets : Sets n T W' lead
  shorter_sets = record {
    accepted = s.accepted;
    each = c.long ∙ s.each;
    root = s.root;
    own = λ i h g.
        same_or_not i p
        (λ e. absurd (omega (arith, g, ap (word_of W') e, c.here, hr.water.node, few s)))
        (λ z. let o = s.own i (was i h) (rw (c.rest i z) at g) in (o.0, c.rest i z ∙ o.1));
    on = λ i h l.
        same_or_not i p
        (λ e. rw (e, c.here) (still r hr, one, early))
        (λ z.
        let o = s.on i (was i h) (rw (c.rest i z) at l) in
        rw (c.rest i z) (still (word_of W i) o.0, o.1, o.2));
    chain = λ i h. s.chain i (was i h);
    leader = λ i h. still (lead i) (s.leader i (was i h));
    once = λ i h. s.once i (was i h);
    first = λ i h. s.first i (was i h);
  }

  pub shorter : Further n T W lead W' lead
  shorter = record {
    sets = shorter_sets;
    placed = still;
    linked = λ i h l. same_or_not i p (λ e. omega (arith, ap (word_of W') e, c.here, hr.water.node, few s)) (λ z. rw (c.rest i z) l);
    together = λ i j h k e. e;
    dark = λ i z. as_before (c.rest i (λ e. z (ap (node_type T) e ∙ hp.water.wet)));
  }

-- leader b goes under leader a: whoever had b has a
unfoldable pub under : ℕ → ℕ → ℕ → ℕ
under a b k = cond (eqb k b) a k

pub under_here : (a b k : ℕ) → k ≡ b → under a b k ≡ a
unfolding under
under_here a b k e = rw (eq-eqb k b e)

pub under_else : (a b k : ℕ) → (k ≡ b → ⊥) → under a b k ≡ k
unfolding under
under_else a b k z = rw (ne_eqb k b z)

-- and that begins earlier, and a chain joins the two
module _ {n : ℕ} {T W W' : List ℕ} {lead : ℕ → ℕ} {a b : ℕ} (s : Sets n T W lead) (c : Changed W b a W') (ha : Placed T W a) (hb : Placed T W b)
    (la : lead a ≡ a) (lb : lead b ≡ b) (early : place_of n T a < place_of n T b) (way : Chain n T b a) where
  forth : (i : ℕ) → Placed T W i → Placed T W' i
  forth = placed_still c (not_root s a ha.water)

  back : (i : ℕ) → Placed T W' i → Placed T W i
  back = placed_was c hb

  apart : a ≡ b → ⊥
  apart e = omega (arith, early, ap (place_of n T) e)

  abbrev pub lead' : ℕ → ℕ
  lead' i = under a b (lead i)

  of_a : lead' a ≡ a
  of_a = under_else a b (lead a) (λ e. apart (sym la ∙ e)) ∙ la

  of_b : lead' b ≡ a
  of_b = under_here a b (lead b) lb

  joined_sets : Sets n T W' lead'
  joined_sets = record {
    accepted = s.accepted;
    each = c.long ∙ s.each;
    root = s.root;
    own = λ i h g.
        same_or_not i b
        (λ e. absurd (omega (arith, g, ap (word_of W') e, c.here, ha.water.node, few s)))
        (λ z.
        let o = s.own i (back i h) (rw (c.rest i z) at g) in
        (under_else a b (lead i) (λ e. z (sym o.0 ∙ e)) ∙ o.0, c.rest i z ∙ o.1));
    on = λ i h l.
        same_or_not i b
        (λ e. rw (e, c.here) (forth a ha, of_a ∙ sym of_b, early))
        (λ z.
        let o = s.on i (back i h) (rw (c.rest i z) at l) in
        rw (c.rest i z) (forth (word_of W i) o.0, ap (under a b) o.1, o.2));
    chain = λ i h.
        let m = s.chain i (back i h) in
        same_or_not (lead i) b
        (λ e. rw (under_here a b (lead i) e) (chain_joined n T i b a (rw e at m) way))
        (λ z. rw (under_else a b (lead i) z) m);
    leader = λ i h.
        same_or_not (lead i) b
        (λ e. rw (under_here a b (lead i) e) (forth a ha))
        (λ z. rw (under_else a b (lead i) z) (forth (lead i) (s.leader i (back i h))));
    once = λ i h.
        same_or_not (lead i) b
        (λ e. rw (under_here a b (lead i) e) of_a)
        (λ z.
        let o = s.once i (back i h) in
        rw (under_else a b (lead i) z) (under_else a b (lead (lead i)) (λ e. z (sym o ∙ e)) ∙ o));
    first = λ i h.
        let o = s.first i (back i h) in
        same_or_not (lead i) b
        (λ e. rw (under_here a b (lead i) e) (omega (arith, o, early, ap (place_of n T) e)))
        (λ z. rw (under_else a b (lead i) z) o);
  }

  pub under_further : Further n T W lead W' lead'
  under_further = record {
    sets = joined_sets;
    placed = forth;
    linked = λ i h l. same_or_not i b (λ e. omega (arith, ap (word_of W') e, c.here, ha.water.node, few s)) (λ z. rw (c.rest i z) l);
    together = λ i j h k e. ap (under a b) e;
    dark = λ i z. as_before (c.rest i (λ e. z (ap (node_type T) e ∙ hb.water.wet)));
  }

  pub under_one : (p q : ℕ) → lead p ≡ a → lead q ≡ b → lead' p ≡ lead' q
  under_one p q ep eq = ap (under a b) (ep ∙ sym la) ∙ of_a ∙ sym of_b ∙ ap (under a b) (lb ∙ sym eq)
