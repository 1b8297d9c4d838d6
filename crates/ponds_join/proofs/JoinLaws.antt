-- Looking for a leader, and joining two sets, in the code's own values.
use mathlib.Core.List.{List}
use mathlib.Core.Path.{◌≡◌, refl, ap, sym, ◌∙◌}
use Prim.Native.Nat.{ℕ, ◌+◌, ◌≤◌, ◌<◌}
use native.Mathlib.Nat.{eq-or-lt_of_le}
use native.Mathlib.Omega.{arith}
use lib.ListN.{length, set}
use Rattle.ponds.specs.Chain.{Chain}
use Rattle.ponds.specs.Words.{word_of}
use Rattle.ponds.proofs.ChainLaws.{chain_joined, chain_back}
use Rattle.base.proofs.BoolLaws.{lt_or_ge}
use mathlib.Core.Logic.{⊎_elim}
use Rattle.ponds.proofs.NodeLaws.{same_or_not}
use Rattle.ponds_sets.specs.Sets.{leading, place_of, Placed, Sets, Further, Alike, Asking, Led, Shorter, Joining, Joined}
use Rattle.ponds_sets.proofs.PlaceLaws.{place_one}
use Rattle.ponds_sets.proofs.SetsLaws.{Changed, changed, within, leads, further_none, further_on, shorter, under_further, under_one, lead'}

-- on the way from p the words have led to q, whose word is w
pub record OnWay (W : List ℕ) (p q w : ℕ) : Type 0 where
  pub word : w ≡ word_of W q
  pub here : (n : ℕ) (T : List ℕ) (lead : ℕ → ℕ) → Sets n T W lead → Placed T W p → Placed T W q × (lead q ≡ lead p)

pub way_start : {W : List ℕ} {p w : ℕ} → w ≡ word_of W p → OnWay W p p w
way_start e = record { word = e; here = λ n T lead s h. (h, refl) }

module _ {W : List ℕ} {p q w : ℕ} (a : Asking W p) (o : OnWay W p q w) where
  pub placed_here : Placed a.T W q
  placed_here = (o.here a.n a.T a.lead a.sets a.placed).0

  -- where the word leads on
  module _ (l : w < leading) where
    next : Placed a.T W w × (a.lead w ≡ a.lead q) × (place_of a.n a.T w < place_of a.n a.T q)
    next = rw (← o.word) at (a.sets.on q placed_here (rw o.word at l))

    pub way_within : w < length W
    way_within = within a.sets w next.0

    pub way_on : {v : ℕ} → v ≡ word_of W w → OnWay W p w v
    way_on e = record {
      word = e;
      here = λ n T lead s h.
          let m = o.here n T lead s h in
          let k = s.on q m.0 (rw o.word at l) in
          rw o.word (k.0, k.1 ∙ m.1);
    }

  pub way_ends : leading ≤ w → Led W p q
  way_ends g n T lead s h = let m = o.here n T lead s h in sym (s.own q m.0 (rw o.word at g)).0 ∙ m.1

pub asked_within : {W : List ℕ} {p : ℕ} → Asking W p → p < length W
asked_within a = within a.sets _ a.placed

-- the leader is p itself
pub root_own : {W : List ℕ} {p r : ℕ} → Led W p r → r ≡ p → Shorter W p W r
root_own l e = record { long = refl; alike = λ i z. z; leads = l; further = λ n T lead s h. further_none s }

-- it is an earlier leaf: p's word leads there
module _ {W : List ℕ} {p r : ℕ} (a : Asking W p) (l : Led W p r) (z : r ≡ p → ⊥) where
  root_changed : Changed W p r (set W p r)
  root_changed = changed W p r (asked_within a)

  -- for any leaders: r is placed, and begins earlier
  module _ (n : ℕ) (T : List ℕ) (lead : ℕ → ℕ) (s : Sets n T W lead) (h : Placed T W p) where
    is : r ≡ lead p
    is = l n T lead s h

    led_placed : Placed T W r
    led_placed = rw is (s.leader p h)

    led_one : lead r ≡ lead p
    led_one = ap lead is ∙ s.once p h

    links : word_of W p < leading
    links = ⊎_elim (λ (k : word_of W p < leading). k) (λ (g : leading ≤ word_of W p). absurd (z (is ∙ (s.own p h g).0))) (lt_or_ge (word_of W p) leading)

    led_early : place_of n T r < place_of n T p
    led_early =
        let o = s.on p h links in
        omega (arith, o.2, s.first (word_of W p) o.0, ap (place_of n T) (is ∙ sym o.1))

  pub root_shorter : Shorter W p (set W p r) r
  root_shorter = record {
    long = root_changed.long;
    alike = λ i e. same_or_not i p (λ ei. absurd (a.placed.some (ap (word_of W) (sym ei) ∙ e))) (λ ne. root_changed.rest i ne ∙ e);
    leads = l;
    further = λ n T lead s h. shorter s root_changed h (led_placed n T lead s h) (led_one n T lead s h) (led_early n T lead s h);
  }

-- the words have become W', some ways to the leaders shorter, and a and b are the leaders of p and q
pub record Two (W : List ℕ) (p q : ℕ) (W' : List ℕ) (a b : ℕ) : Type 0 where
  pub long : length W' ≡ length W
  pub alike : Alike W W'
  pub found : (n : ℕ) (T : List ℕ) (lead : ℕ → ℕ) → Sets n T W lead → Placed T W p → Placed T W q → Further n T W lead W' lead × (a ≡ lead p) × (b ≡ lead q)

pub second_asking : {W W' : List ℕ} {p q a : ℕ} → Joining W p q → Shorter W p W' a → Asking W' q
second_asking {q = q} j f =
    let k = f.further j.n j.T j.lead j.sets j.first in
    record { n = j.n; T = j.T; lead = j.lead; sets = k.sets; placed = k.placed q j.second }

pub two : {W₀ W₁ W₂ : List ℕ} {p q a b : ℕ} → Shorter W₀ p W₁ a → Shorter W₁ q W₂ b → Two W₀ p q W₂ a b
two {q = q} f g = record {
  long = g.long ∙ f.long;
  alike = λ i e. g.alike i (f.alike i e);
  found = λ n T lead s hp hq.
      let k = f.further n T lead s hp in
      let m = k.placed q hq in
      (further_on k (g.further n T lead k.sets m), f.leads n T lead s hp, g.leads n T lead k.sets m);
}

-- it does not matter which of them is called the first
two_back : {W W' : List ℕ} {p q a b : ℕ} → Two W p q W' a b → Two W q p W' b a
two_back t = record {
  long = t.long;
  alike = t.alike;
  found = λ n T lead s hq hp. let k = t.found n T lead s hp hq in (k.0, k.2, k.1);
}

joining_back : {W : List ℕ} {p q : ℕ} → Joining W p q → Joining W q p
joining_back j = record { n = j.n; T = j.T; lead = j.lead; sets = j.sets; first = j.second; second = j.first }

joined_back : {W W' : List ℕ} {p q : ℕ} → Joined W q p W' → Joined W p q W'
joined_back {p = p} {q = q} d = record {
  long = d.long;
  alike = d.alike;
  union = λ n T lead s hp hq way.
      let u = d.union n T lead s hq hp (chain_back n T p q way) in
      record { lead' = u.lead'; further = u.further; one = sym u.one };
}

module _ {W W' : List ℕ} {p q a b : ℕ} (j : Joining W p q) (t : Two W p q W' a b) where
  -- for any leaders that fit the words in the beginning
  module _ (n : ℕ) (T : List ℕ) (lead : ℕ → ℕ) (s : Sets n T W lead) (hp : Placed T W p) (hq : Placed T W q) where
    so_far : Further n T W lead W' lead
    so_far = (t.found n T lead s hp hq).0

    first_is : a ≡ lead p
    first_is = (t.found n T lead s hp hq).1

    second_is : b ≡ lead q
    second_is = (t.found n T lead s hp hq).2

    first_placed : Placed T W' a
    first_placed = rw first_is (so_far.sets.leader p (so_far.placed p hp))

    second_placed : Placed T W' b
    second_placed = rw second_is (so_far.sets.leader q (so_far.placed q hq))

    first_own : lead a ≡ a
    first_own = ap lead first_is ∙ s.once p hp ∙ sym first_is

    second_own : lead b ≡ b
    second_own = ap lead second_is ∙ s.once q hq ∙ sym second_is

    between : Chain n T p q → Chain n T b a
    between c =
        rw (first_is, second_is)
        (chain_joined n T (lead q) q (lead p) (chain_back n T q (lead q) (s.chain q hq))
        (chain_joined n T q p (lead p) (chain_back n T p q c) (s.chain p hp)))

    place_first : word_of W' a ≡ leading + place_of n T a
    place_first = (so_far.sets.own a first_placed (leads so_far.sets a first_placed first_own)).1

    place_second : word_of W' b ≡ leading + place_of n T b
    place_second = (so_far.sets.own b second_placed (leads so_far.sets b second_placed second_own)).1

  later_placed : Placed j.T W' b
  later_placed = second_placed j.n j.T j.lead j.sets j.first j.second

  pub later_within : b < length W'
  later_within = within (so_far j.n j.T j.lead j.sets j.first j.second).sets b later_placed

  -- they are one
  pub join_none : a ≡ b → Joined W p q W'
  join_none e = record {
    long = t.long;
    alike = t.alike;
    union = λ n T lead s hp hq c. record {
      lead' = lead;
      further = so_far n T lead s hp hq;
      one = sym (first_is n T lead s hp hq) ∙ e ∙ second_is n T lead s hp hq;
    };
  }

  -- the second begins later, and goes under the first
  pub join_second : word_of W' a < word_of W' b → Joined W p q (set W' b a)
  join_second l =
      let c = changed W' b a later_within in
      record {
        long = c.long ∙ t.long;
        alike = λ i e.
            same_or_not i b (λ ei. absurd (later_placed.some (ap (word_of W') (sym ei) ∙ t.alike i e))) (λ ne. c.rest i ne ∙ t.alike i e);
        union = λ n T lead s hp hq way.
            let u = so_far n T lead s hp hq in
            let ha = first_placed n T lead s hp hq in
            let hb = second_placed n T lead s hp hq in
            let la = first_own n T lead s hp hq in
            let lb = second_own n T lead s hp hq in
            let early : place_of n T a < place_of n T b = omega (arith, l, place_first n T lead s hp hq, place_second n T lead s hp hq) in
            let w = between n T lead s hp hq way in
            record {
              lead' = lead' u.sets c ha hb la lb early w;
              further = further_on u (under_further u.sets c ha hb la lb early w);
              one = under_one u.sets c ha hb la lb early w p q (sym (first_is n T lead s hp hq)) (sym (second_is n T lead s hp hq));
            };
      }

-- the first begins later
module _ {W W' : List ℕ} {p q a b : ℕ} (j : Joining W p q) (t : Two W p q W' a b) where
  pub earlier_within : a < length W'
  earlier_within = later_within (joining_back j) (two_back t)

  -- leaders that are not one begin at two places
  distinct : (a ≡ b → ⊥) → word_of W' b ≤ word_of W' a → word_of W' b < word_of W' a
  distinct z le =
      let s = j.sets in
      let hp = j.first in
      let hq = j.second in
      let f = first_placed j t j.n j.T j.lead s hp hq in
      let g = second_placed j t j.n j.T j.lead s hp hq in
      let ef = place_first j t j.n j.T j.lead s hp hq in
      let eg = place_second j t j.n j.T j.lead s hp hq in
      ⊎_elim
      (λ (e : word_of W' b ≡ word_of W' a). absurd (z (place_one s.accepted f.water g.water (omega (arith, e, ef, eg)))))
      (λ (l : word_of W' b < word_of W' a). l)
      (eq-or-lt_of_le le)

  pub join_first : (a ≡ b → ⊥) → word_of W' b ≤ word_of W' a → Joined W p q (set W' a b)
  join_first z le = joined_back (join_second (joining_back j) (two_back t) (distinct z le))

-- the same from the two looks
module _ {W₀ W₁ W₂ : List ℕ} {p q a b : ℕ} (j : Joining W₀ p q) (f : Shorter W₀ p W₁ a) (g : Shorter W₁ q W₂ b) where
  pub second_within : b < length W₂
  second_within = later_within j (two f g)

  pub first_within : a < length W₂
  first_within = earlier_within j (two f g)

  pub one_already : a ≡ b → Joined W₀ p q W₂
  one_already = join_none j (two f g)

  pub second_under : word_of W₂ a < word_of W₂ b → Joined W₀ p q (set W₂ b a)
  second_under = join_second j (two f g)

  pub first_under : (a ≡ b → ⊥) → word_of W₂ b ≤ word_of W₂ a → Joined W₀ p q (set W₂ a b)
  first_under = join_first j (two f g)
