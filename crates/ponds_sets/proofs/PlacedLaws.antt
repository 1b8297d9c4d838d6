-- The walk comes to a black leaf: it leads a set of its own, or goes into the set of a leaf beside it.
use mathlib.Core.Bool.{cond}
use mathlib.Core.List.{List}
use mathlib.Core.Logic.{◌⊎◌, inl, inr, ⊎_elim}
use mathlib.Core.Path.{◌≡◌, refl, ap, sym, ◌∙◌}
use Prim.Native.Nat.{ℕ, ◌+◌, ◌≤◌, ◌<◌}
use native.Mathlib.Omega.{arith}
use lib.Dec.{eqb}
use lib.ListN.{length}
use borrow.Author.Tests.{eq-eqb, ne_eqb}
use Rattle.quad.specs.Numbers.{black}
use Rattle.table.specs.Table.{node_type}
use Rattle.ponds.specs.Chain.{Water, Chain, end}
use Rattle.ponds.specs.Words.{word_of}
use Rattle.ponds.proofs.NodeLaws.{same_or_not}
use Rattle.ponds_sets.specs.Sets.{leading, place_of, Placed, Sets, Dark, as_before, Further}
use Rattle.ponds_sets.proofs.SetsLaws.{Changed, few, not_root, other_placed, other_was}

-- no black leaf's word is another than before
module _ {n : ℕ} {T W W' : List ℕ} {lead : ℕ → ℕ} (s : Sets n T W lead) (long : length W' ≡ length W) (same : (i : ℕ) → Water T i → word_of W' i ≡ word_of W i)
    (dark : (i : ℕ) → (node_type T i ≡ black → ⊥) → Dark n T W W' i) where
  forth : (i : ℕ) → Placed T W i → Placed T W' i
  forth i h = record { water = h.water; some = λ e. h.some (sym (same i h.water) ∙ e) }

  back : (i : ℕ) → Placed T W' i → Placed T W i
  back i h = record { water = h.water; some = λ e. h.some (same i h.water ∙ e) }

  pub further_same : Further n T W lead W' lead
  further_same = record {
    sets = record {
      accepted = s.accepted;
      each = long ∙ s.each;
      root = s.root;
      own = λ i h g. let o = s.own i (back i h) (rw (same i h.water) at g) in (o.0, same i h.water ∙ o.1);
      on = λ i h l.
          let o = s.on i (back i h) (rw (same i h.water) at l) in
          rw (same i h.water) (forth (word_of W i) o.0, o.1, o.2);
      chain = λ i h. s.chain i (back i h);
      leader = λ i h. forth (lead i) (s.leader i (back i h));
      once = λ i h. s.once i (back i h);
      first = λ i h. s.first i (back i h);
    };
    placed = forth;
    linked = λ i h l. rw (same i h.water) l;
    together = λ i j h k e. e;
    dark = dark;
  }

-- the leaders, where p has t
unfoldable pub with_leaf : ℕ → ℕ → (ℕ → ℕ) → ℕ → ℕ
with_leaf p t lead i = cond (eqb i p) t (lead i)

pub with_here : (p t : ℕ) (lead : ℕ → ℕ) → with_leaf p t lead p ≡ t
unfolding with_leaf
with_here p t lead = rw (eq-eqb p p refl)

pub with_else : (p t : ℕ) (lead : ℕ → ℕ) (i : ℕ) → (i ≡ p → ⊥) → with_leaf p t lead i ≡ lead i
unfolding with_leaf
with_else p t lead i z = rw (ne_eqb i p z)

-- what makes v a word for leaf p and t its leader
pub record Fits (n : ℕ) (T W : List ℕ) (lead : ℕ → ℕ) (p v t : ℕ) : Type 0 where
  pub some : v ≡ 0 → ⊥
  pub own : leading ≤ v → (t ≡ p) × (v ≡ leading + place_of n T p)
  pub on : v < leading → Placed T W v × (lead v ≡ t) × (place_of n T v < place_of n T p)
  pub chain : Chain n T p t
  pub leader : (t ≡ p) ⊎ (Placed T W t × (lead t ≡ t))
  pub first : place_of n T t ≤ place_of n T p

-- a set of its own
pub fits_own : {n : ℕ} {T W : List ℕ} {lead : ℕ → ℕ} {p : ℕ} → Water T p → Fits n T W lead p (leading + place_of n T p) p
fits_own w = record {
  some = λ e. omega (arith, e);
  own = λ g. (refl, refl);
  on = λ l. absurd (omega (arith, l));
  chain = end w;
  leader = inl refl;
  first = omega arith;
}

-- the set of u, which begins earlier
pub fits_label : {n : ℕ} {T W : List ℕ} {lead : ℕ → ℕ} {p u : ℕ} → Sets n T W lead → Placed T W u → place_of n T u < place_of n T p → Chain n T p (lead u)
    → Fits n T W lead p u (lead u)
fits_label {u = u} s h l c = record {
  some = not_root s u h.water;
  own = λ g. absurd (omega (arith, g, few s, h.water.node));
  on = λ m. (h, refl, l);
  chain = c;
  leader = inr (s.leader u h, s.once u h);
  first = omega (arith, s.first u h, l);
}

module _ {n : ℕ} {T W W' : List ℕ} {lead : ℕ → ℕ} {p v t : ℕ} (s : Sets n T W lead) (c : Changed W p v W') (w : Water T p) (free : word_of W p ≡ 0)
    (f : Fits n T W lead p v t) where
  abbrev pub then : ℕ → ℕ
  then = with_leaf p t lead

  -- p was not placed, and now is
  pub not_before : (i : ℕ) → Placed T W i → i ≡ p → ⊥
  not_before i h e = h.some (ap (word_of W) e ∙ free)

  pub then_same : (i : ℕ) → Placed T W i → then i ≡ lead i
  then_same i h = with_else p t lead i (not_before i h)

  still : (i : ℕ) → Placed T W i → Placed T W' i
  still i h = other_placed c i (not_before i h) h

  pub now_placed : Placed T W' p
  now_placed = record { water = w; some = λ e. f.some (sym c.here ∙ e) }

  -- what is placed now is p, or was
  case : {A : Type 0} (i : ℕ) → Placed T W' i → (i ≡ p → A) → ((i ≡ p → ⊥) → Placed T W i → A) → A
  case i h one other = same_or_not i p one (λ z. other z (other_was c i z h))

  placed_sets : Sets n T W' then
  placed_sets = record {
    accepted = s.accepted;
    each = c.long ∙ s.each;
    root = s.root;
    own = λ i h g.
        case i h
        (λ e.
        let o = f.own (rw (e, c.here) at g) in
        rw e (with_here p t lead ∙ o.0, c.here ∙ o.1))
        (λ z m.
        let o = s.own i m (rw (c.rest i z) at g) in
        (then_same i m ∙ o.0, c.rest i z ∙ o.1));
    on = λ i h l.
        case i h
        (λ e.
        let o = f.on (rw (e, c.here) at l) in
        rw (e, c.here) (still v o.0, then_same v o.0 ∙ o.1 ∙ sym (with_here p t lead), o.2))
        (λ z m.
        let o = s.on i m (rw (c.rest i z) at l) in
        rw (c.rest i z) (still (word_of W i) o.0, then_same (word_of W i) o.0 ∙ o.1 ∙ sym (then_same i m), o.2));
    chain = λ i h.
        case i h (λ e. rw (e, with_here p t lead) f.chain) (λ z m. rw (then_same i m) (s.chain i m));
    leader = λ i h.
        case i h
        (λ e. rw (e, with_here p t lead) (⊎_elim (λ (k : t ≡ p). rw k now_placed) (λ (k : Placed T W t × (lead t ≡ t)). still t k.0) f.leader))
        (λ z m. rw (then_same i m) (still (lead i) (s.leader i m)));
    once = λ i h.
        case i h
        (λ e.
        rw (e, with_here p t lead)
        (⊎_elim
        (λ (k : t ≡ p). ap then k ∙ with_here p t lead)
        (λ (k : Placed T W t × (lead t ≡ t)). then_same t k.0 ∙ k.1)
        f.leader))
        (λ z m. rw (then_same i m) (then_same (lead i) (s.leader i m) ∙ s.once i m));
    first = λ i h. case i h (λ e. rw (e, with_here p t lead) f.first) (λ z m. rw (then_same i m) (s.first i m));
  }

  pub placed_further : Further n T W lead W' then
  placed_further = record {
    sets = placed_sets;
    placed = still;
    linked = λ i h l. rw (c.rest i (not_before i h)) l;
    together = λ i j h k e. then_same i h ∙ e ∙ sym (then_same j k);
    dark = λ i z. as_before (c.rest i (λ e. z (ap (node_type T) e ∙ w.wet)));
  }
