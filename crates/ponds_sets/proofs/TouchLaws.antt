-- What a leaf takes from the labels north and west of its top left pixel, in the code's own values: first its own word,
-- then the two sets joined.
use mathlib.Core.List.{List}
use mathlib.Core.Path.{◌≡◌, refl, ap, sym, ◌∙◌}
use Prim.Native.Nat.{ℕ, ◌+◌, ◌-◌, ◌*◌, ◌≤◌, ◌<◌}
use native.Mathlib.Omega.{arith}
use lib.ListN.{length, set, length-set}
use borrow.Author.Tests.{eq-eqb, ne_eqb}
use Rattle.quad.specs.Numbers.{black}
use Rattle.quad.specs.Direction.{east_step, south_step}
use Rattle.table.specs.Table.{node_type}
use Rattle.table.specs.Nodes.{left_of, top_of}
use Rattle.table.proofs.AcceptedLaws.{leaf_colour}
use Rattle.ponds.specs.Chain.{Water, Shares, Chain, link}
use Rattle.ponds.specs.Words.{word_of}
use Rattle.ponds.proofs.ChainLaws.{chain_joined, chain_back}
use Rattle.ponds.proofs.NodeLaws.{same_or_not}
use Rattle.ponds_sets.specs.Sets.{leading, place_of, Placed, Sets, as_before, none, Further, Joining, Joined}
use Rattle.ponds_sets.specs.Lines.{Has, Label, across}
use Rattle.ponds_sets.specs.Touch.{first_nonzero, black_of, one_if_nonzero, differ_of, Touching, Touched}
use Rattle.ponds_sets.proofs.PlaceLaws.{has_contains, own_pixel, has_across}
use Rattle.ponds_sets.proofs.SetsLaws.{Changed, changed, few, not_root, further_none, further_on}
use Rattle.ponds_sets.proofs.PlacedLaws.{further_same, Fits, fits_own, fits_label, then, then_same, now_placed, placed_further, with_here}

pub nonzero_second : (a b : ℕ) → a ≡ 0 → first_nonzero a b ≡ b
unfolding first_nonzero
nonzero_second a b e = rw (eq-eqb a 0 e)

pub nonzero_first : (a b : ℕ) → (a ≡ 0 → ⊥) → first_nonzero a b ≡ a
unfolding first_nonzero
nonzero_first a b z = rw (ne_eqb a 0 z)

pub black_is : (k a : ℕ) → k ≡ black → black_of k a ≡ a
unfolding black_of
black_is k a e = rw (eq-eqb k black e)

pub black_not : (k a : ℕ) → (k ≡ black → ⊥) → black_of k a ≡ 0
unfolding black_of
black_not k a z = rw (ne_eqb k black z)

-- a pixel north, or west, of a pixel of p: the two leaves share a length of side
module _ {n : ℕ} {T : List ℕ} {p j x y : ℕ} (hp : Has n T p x y) where
  pub shares_north : 0 < y → Has n T j x (y - 1) → Shares n T p j
  unfolding east_step south_step
  shares_north l h = record {
    side = 0;
    x = x;
    y = y;
    straight = omega arith;
    touch = record {
      east = omega arith;
      south = omega arith;
      here = has_contains hp;
      beyond = let e : x + 1 - 1 ≡ x = omega arith in let f : y + 0 - 1 ≡ y - 1 = omega arith in rw (e, f) (has_contains h);
    };
  }

  pub shares_west : 0 < x → Has n T j (x - 1) y → Shares n T p j
  unfolding east_step south_step
  shares_west l h = record {
    side = 3;
    x = x;
    y = y;
    straight = omega arith;
    touch = record {
      east = omega arith;
      south = omega arith;
      here = has_contains hp;
      beyond = let e : x + 0 - 1 ≡ x - 1 = omega arith in let f : y + 1 - 1 ≡ y = omega arith in rw (e, f) (has_contains h);
    };
  }

-- label u is that of a black leaf beside p that begins earlier
pub record Beside (n : ℕ) (T W : List ℕ) (lead : ℕ → ℕ) (p u : ℕ) : Type 0 where
  pub leaf : ℕ
  pub label : Label n T W lead u leaf
  pub shares : Shares n T p leaf
  pub early : place_of n T leaf < place_of n T p

pub beside_chain : {n : ℕ} {T W : List ℕ} {lead : ℕ → ℕ} {p u : ℕ} → Sets n T W lead → Water T p → Beside n T W lead p u → Chain n T p (lead u)
beside_chain {n} {T} {lead = lead} {p = p} s w b = rw b.label.one (link w b.shares (s.chain b.leaf b.label.leaf))

-- two leaves of one set
pub set_chain : {n : ℕ} {T W : List ℕ} {lead : ℕ → ℕ} {p q : ℕ} → Sets n T W lead → Placed T W p → Placed T W q → lead p ≡ lead q → Chain n T p q
set_chain {n} {T} {lead = lead} {p} {q} s hp hq e =
    chain_joined n T p (lead q) q (rw e at (s.chain p hp)) (chain_back n T q (lead q) (s.chain q hq))

module _ {W : List ℕ} {kind p north west place : ℕ} (z : Touching W kind p north west place) where
  here : Has z.n z.T p (left_of z.n z.T p) (top_of z.n z.T p)
  here = own_pixel p z.node

  pub touch_within : p < length W
  touch_within = omega (arith, z.node, z.sets.each)

  pub kind_few : kind ≤ 1
  kind_few = rw z.is (leaf_colour z.n z.T z.sets.accepted p z.node z.leaf)

  pub place_few : place < across * across
  unfolding place_of
  place_few = let m = has_across z.sets.accepted here in omega (arith, z.stands, m.0, m.1)

  pub free : Water z.T p → word_of W p ≡ 0
  free w = z.free (z.is ∙ w.wet)

  water : kind ≡ black → Water z.T p
  water b = record { node = z.node; wet = sym z.is ∙ b }

  north_beside : (north ≡ 0 → ⊥) → Beside z.n z.T W z.lead p north
  unfolding place_of
  north_beside some =
      let x = left_of z.n z.T p in
      let y = top_of z.n z.T p in
      same_or_not y 0
      (λ e. absurd (some (z.above.off e)))
      (λ ne.
      let t = (z.above.on (omega arith)).dry some in
      let m = has_across z.sets.accepted (own_pixel t.0 t.1.node) in
      record {
        leaf = t.0;
        label = t.2;
        shares = shares_north here (omega arith) t.1;
        early = omega (arith, t.1.north, m.0);
      })

  west_beside : (west ≡ 0 → ⊥) → Beside z.n z.T W z.lead p west
  unfolding place_of
  west_beside some =
      let x = left_of z.n z.T p in
      let y = top_of z.n z.T p in
      same_or_not x 0
      (λ e. absurd (some (z.before.off e)))
      (λ ne.
      let t = (z.before.on (omega arith)).dry some in
      record {
        leaf = t.0;
        label = t.2;
        shares = shares_west here (omega arith) t.1;
        early = omega (arith, t.1.north, t.1.west);
      })

-- once p has its word: the sets with it, and its label
pub record Begun (n : ℕ) (T W : List ℕ) (lead : ℕ → ℕ) (p north west : ℕ) (W' : List ℕ) (r : ℕ) : Type 0 where
  pub lead' : ℕ → ℕ
  pub further : Further n T W lead W' lead'
  pub same : (i : ℕ) → Placed T W i → lead' i ≡ lead i
  pub label : Label n T W' lead' r p
  pub first : (north ≡ 0 → ⊥) → r ≡ north
  pub second : north ≡ 0 → (west ≡ 0 → ⊥) → r ≡ west
  pub linked : (r ≡ p → ⊥) → word_of W' p < leading

module _ {W : List ℕ} {kind p north west place : ℕ} (z : Touching W kind p north west place) where
  -- the set of a leaf beside it
  begun_label : (u : ℕ) → Water z.T p → Beside z.n z.T W z.lead p u → ((north ≡ 0 → ⊥) → u ≡ north) → (north ≡ 0 → (west ≡ 0 → ⊥) → u ≡ west)
      → Begun z.n z.T W z.lead p north west (set W p u) u
  begun_label u w b f g =
      let s = z.sets in
      let c = changed W p u (touch_within z) in
      let l : place_of z.n z.T u < place_of z.n z.T p = omega (arith, b.label.early, b.early) in
      let k = fits_label s b.label.label l (beside_chain s w b) in
      let m = placed_further s c w (free z w) k in
      record {
        lead' = then s c w (free z w) k;
        further = m;
        same = then_same s c w (free z w) k;
        label = record {
          label = m.placed u b.label.label;
          leaf = now_placed s c w (free z w) k;
          one = then_same s c w (free z w) k u b.label.label ∙ sym (with_here p (z.lead u) z.lead);
          early = omega (arith, l);
        };
        first = f;
        second = g;
        linked = λ o. omega (arith, c.here, few s, b.label.label.water.node);
      }

  -- a set of its own
  begun_own : Water z.T p → north ≡ 0 → west ≡ 0 → Begun z.n z.T W z.lead p north west (set W p (leading + place)) p
  begun_own w en ew =
      let s = z.sets in
      let c : Changed W p (leading + place_of z.n z.T p) (set W p (leading + place)) =
      rw z.stands (changed W p (leading + place_of z.n z.T p) (touch_within z)) in
      let k : Fits z.n z.T W z.lead p (leading + place_of z.n z.T p) p = fits_own w in
      record {
        lead' = then s c w (free z w) k;
        further = placed_further s c w (free z w) k;
        same = then_same s c w (free z w) k;
        label = record { label = now_placed s c w (free z w) k; leaf = now_placed s c w (free z w) k; one = refl; early = omega arith };
        first = λ o. absurd (o en);
        second = λ e o. absurd (o ew);
        linked = λ o. absurd (o refl);
      }

  -- in the code's own values
  module _ (first own label lead word : ℕ) (ef : first ≡ first_nonzero north west) (eo : own ≡ first_nonzero first p) (el : label ≡ black_of kind own)
      (ed : lead ≡ first_nonzero first (leading + place)) (ew : word ≡ black_of kind lead) where
    pub begun : kind ≡ black → Begun z.n z.T W z.lead p north west (set W p word) label
    begun b =
        let w = water z b in
        let e : label ≡ own = el ∙ black_is kind own b in
        let f : word ≡ lead = ew ∙ black_is kind lead b in
        same_or_not north 0
        (λ no.
        let fw : first ≡ west = ef ∙ nonzero_second north west no in
        same_or_not west 0
        (λ we.
        let no-first : first ≡ 0 = fw ∙ we in
        rw (e ∙ eo ∙ nonzero_second first p no-first, f ∙ ed ∙ nonzero_second first (leading + place) no-first) (begun_own w no we))
        (λ we.
        let some : first ≡ 0 → ⊥ = λ o. we (sym fw ∙ o) in
        rw (e ∙ eo ∙ nonzero_first first p some ∙ fw, f ∙ ed ∙ nonzero_first first (leading + place) some ∙ fw)
        (begun_label west w (west_beside z we) (λ o. absurd (o no)) (λ u v. refl))))
        (λ no.
        let fn : first ≡ north = ef ∙ nonzero_first north west no in
        let some : first ≡ 0 → ⊥ = λ o. no (sym fn ∙ o) in
        rw (e ∙ eo ∙ nonzero_first first p some ∙ fn, f ∙ ed ∙ nonzero_first first (leading + place) some ∙ fn)
        (begun_label north w (north_beside z no) (λ o. refl) (λ u v. absurd (no u))))

one_nonzero : (a s : ℕ) → s ≡ one_if_nonzero a → s ≡ 1 → a ≡ 0 → ⊥
unfolding one_if_nonzero
one_nonzero a s e o z = let f : s ≡ 0 = rw (eq-eqb a 0 z) at e in omega (arith, o, f)

nonzero_one : (a s : ℕ) → s ≡ one_if_nonzero a → (a ≡ 0 → ⊥) → s ≡ 1
unfolding one_if_nonzero
nonzero_one a s e z = e ∙ (rw (ne_eqb a 0 z))

pub apart_is : (a b s : ℕ) → s ≡ differ_of a b → (a ≡ b → ⊥) → s ≡ 1
unfolding differ_of
apart_is a b s e z = e ∙ (rw (ne_eqb a b z))

module _ {W : List ℕ} {kind p north west place : ℕ} (z : Touching W kind p north west place) where
  -- what is left to say once p has its word and the sets beside it are one
  touched_from : (W₁ W₂ : List ℕ) (r v : ℕ) (lead₂ : ℕ → ℕ) → kind ≡ black → Changed W p v W₁ → (g : Begun z.n z.T W z.lead p north west W₁ r)
      → Further z.n z.T W₁ g.lead' W₂ lead₂ → ((i : ℕ) → word_of W₁ i ≡ 0 → word_of W₂ i ≡ 0) → ((west ≡ 0 → ⊥) → lead₂ west ≡ lead₂ r)
      → Touched z.n z.T W z.lead p W₂ r
  touched_from W₁ W₂ r v lead₂ b c g m alike one =
      let to-p : lead₂ r ≡ lead₂ p = m.together r p g.label.label g.label.leaf g.label.one in
      -- a leaf whose label was u, before
      let told : (u j : ℕ) → Label z.n z.T W z.lead u j → Placed z.T W₂ j × (lead₂ j ≡ lead₂ u) =
      λ u j l.
      let hj = g.further.placed j l.leaf in
      let hu = g.further.placed u l.label in
      (m.placed j hj, m.together j u hj hu (g.same j l.leaf ∙ sym l.one ∙ sym (g.same u l.label))) in
      record {
        lead' = lead₂;
        further = further_on g.further m;
        rest = λ i ne e. alike i (c.rest i ne ∙ e);
        dry = λ nb. absurd (nb (sym z.is ∙ b));
        label = λ w. record {
          label = m.placed r g.label.label;
          leaf = m.placed p g.label.leaf;
          one = to-p;
          early = g.label.early;
        };
        met = λ w. record {
          north = λ l j wj h.
              let k = (z.above.on l).wet j wj h in
              let t = told north j k in
              let some = not_root z.sets north k.label.water in
              (t.0, t.1 ∙ ap lead₂ (sym (g.first some)) ∙ to-p);
          west = λ l j wj h.
              let k = (z.before.on l).wet j wj h in
              let t = told west j k in
              let some = not_root z.sets west k.label.water in
              (t.0, t.1 ∙ one some ∙ to-p);
        };
        linked = λ w ne. m.linked p g.label.leaf (g.linked ne);
      }

  module _ (first own label lead word s a : ℕ) (ef : first ≡ first_nonzero north west) (eo : own ≡ first_nonzero first p) (el : label ≡ black_of kind own)
      (ed : lead ≡ first_nonzero first (leading + place)) (ew : word ≡ black_of kind lead) (es : (s ≡ one_if_nonzero west) × (s ≤ 1)) (ea : (a ≡ differ_of label west) × (a ≤ 1)) where
    abbrev W₁ : List ℕ
    W₁ = set W p word

    c : Changed W p word W₁
    c = changed W p word (touch_within z)

    -- both are there, and differ
    module _ (taken : kind + s + a ≡ 3) where
      is_black_lem : kind ≡ black
      is_black_lem = omega (arith, taken, kind_few z, es.1, ea.1)

      west_some : west ≡ 0 → ⊥
      west_some = one_nonzero west s es.0 (omega (arith, taken, kind_few z, es.1, ea.1))

      g : Begun z.n z.T W z.lead p north west W₁ label
      g = begun z first own label lead word ef eo el ed ew is_black_lem

      bw : Beside z.n z.T W z.lead p west
      bw = west_beside z west_some

      west_placed : Placed z.T W₁ west
      west_placed = g.further.placed west bw.label.label

      pub touch_joining : Joining W₁ label west
      touch_joining = record { n = z.n; T = z.T; lead = g.lead'; sets = g.further.sets; first = g.label.label; second = west_placed }

      between : Chain z.n z.T label west
      between =
          let n = z.n in
          let T = z.T in
          let up = z.lead west in
          chain_joined n T label p west
          (set_chain g.further.sets g.label.label g.label.leaf g.label.one)
          (chain_joined n T p up west
          (beside_chain z.sets (water z is_black_lem) bw)
          (chain_back n T west up (z.sets.chain west bw.label.label)))

      pub touched_joined : (W₂ : List ℕ) → Joined W₁ label west W₂ → Touched z.n z.T W z.lead p W₂ label
      touched_joined W₂ j =
          let u = j.union z.n z.T g.lead' g.further.sets g.label.label west_placed between in
          touched_from W₁ W₂ label word u.lead' is_black_lem c g u.further j.alike (λ o. sym u.one)

    -- or not
    pub touched_plain : (kind + s + a ≡ 3 → ⊥) → Touched z.n z.T W z.lead p W₁ label
    touched_plain left =
        same_or_not kind black
        (λ b.
        let g = begun z first own label lead word ef eo el ed ew b in
        touched_from W₁ W₁ label word g.lead' b c g (further_none g.further.sets) (λ i e. e)
        (λ o. same_or_not label west (λ e. ap g.lead' (sym e))
        (λ ne. absurd (left (omega (arith, b, nonzero_one west s es.0 o, apart_is label west a ea.0 ne))))))
        (λ nb.
        let no_word : word ≡ 0 = ew ∙ black_not kind lead nb in
        let dry : node_type z.T p ≡ black → ⊥ = λ b. nb (z.is ∙ b) in
        record {
          lead' = z.lead;
          further = further_same z.sets c.long (λ i w. same_or_not i p (λ e. absurd (dry (ap (node_type z.T) (sym e) ∙ w.wet))) (c.rest i))
              (λ i d. same_or_not i p (λ e. none (ap (word_of W₁) e ∙ c.here ∙ no_word)) (λ ne. as_before (c.rest i ne)));
          rest = λ i ne e. c.rest i ne ∙ e;
          dry = λ d. (el ∙ black_not kind own nb, c.here ∙ no_word);
          label = λ w. absurd (dry w);
          met = λ w. absurd (dry w);
          linked = λ w. absurd (dry w);
        })

-- a word set, and what is as long as that
pub set_long : (W W' : List ℕ) (p v : ℕ) → length W' ≡ length (set W p v) → length W' ≡ length W
set_long W W' p v e = e ∙ length-set W p v

pub set_kept : (X W : List ℕ) (p v : ℕ) → length X ≡ length W → length (set X p v) ≡ length W
set_kept X W p v e = length-set X p v ∙ e
