-- From the leaders' queues to the numbers: the walk begins with no leader in a queue and ends with every one; they are
-- counted off; each word then leads to its leader's, and what is left without the mark is a number from 1 on, in the
-- order of places.
use mathlib.Core.Bool.{true, false, cond, false≢true}
use mathlib.Core.List.{List}
use mathlib.Core.Logic.{◌⊎◌, inl, inr, ⊎_elim}
use mathlib.Core.Path.{◌≡◌, refl, ap, sym, ◌∙◌}
use Prim.Native.Nat.{ℕ, zero, suc, ◌+◌, ◌-◌, ◌*◌, ◌^◌, ◌≤◌, ◌<◌}
use native.Mathlib.Omega.{arith}
use lib.Dec.{eqb}
use lib.ListN.{length, set, length-set, replicate, length-replicate}
use lib.Pow.{pow_mono}
use lib.Seq.{get_or-set_same, get_or-set_other}
use borrow.Author.Tests.{eqb-true, eqb-false, eq-eqb, ne_eqb}
use Rattle.base.proofs.BoolLaws.{by_bool, lt_or_ge}
use Rattle.quad.specs.Numbers.{black, fork_type, top_level}
use Rattle.quad.specs.Block.{column, row}
use Rattle.table.specs.Table.{nodes, node_type}
use Rattle.table.specs.Nodes.{left_of, top_of}
use Rattle.table.proofs.AcceptedLaws.{root_at}
use Rattle.table.proofs.NodeLaws.{path_root}
use Rattle.ponds.specs.Chain.{Water, Chain}
use Rattle.ponds.specs.Words.{word_of}
use Rattle.ponds.proofs.ChainLaws.{chain_joined, chain_back}
use Rattle.ponds_sets.specs.Sets.{leading, place_of}
use Rattle.ponds_sets.specs.Labelled.{Labelled}
use Rattle.ponds_queues.specs.Words.{Ends, Ending, Settled, Finishing, Finished}
use Rattle.ponds_queues.specs.Queues.{row_of, Leads, Passed, Reach, Through, Full}
use Rattle.ponds_ranks.specs.Counts.{Counted, Rows, RowsOff}
use Rattle.ponds_ranks.specs.Ranked.{Ranked}
use Rattle.ponds_queues.proofs.WordLaws.{same_or}
use Rattle.ponds_queues.proofs.PlaceLaws.{left_on, top_on, left_top, top_top, place_only}
use Rattle.ponds_queues.proofs.QueueLaws.{words_few}

-- no leader stands in a queue
root_reach : {n : ℕ} {T F R : List ℕ} → Labelled n T F → length R ≡ 2 ^ top_level → ((y : ℕ) → row_of R y ≡ 0) → Reach n F (λ i. false) T F R 0 n 0
unfolding row
root_reach {n} {T} {F} {R} r tall none =
    let s = r.sets in
    let off : false ≡ true → ⊥ = false≢true in
    record {
      ready = r;
      place = root_at r.sets.accepted;
      fork = s.root;
      top = rw (path_root T n) (omega arith);
      queued = record {
        size = s.each;
        tall = tall;
        leads = λ i d. absurd (off d);
        still = λ i d. refl;
        heads = λ y. record { none = λ e j d. absurd (off d); some = λ z. absurd (z (none y)); first = λ j d. absurd (off d) };
        nexts = λ i d. absurd (off d);
      };
      east = λ i d. absurd (off d);
    }

zeros : (k y : ℕ) → row_of (replicate k 0) y ≡ 0
zeros zero y = refl
zeros (suc k) zero = refl
zeros (suc k) (suc y) = zeros k y

pub root_reached : {n : ℕ} {T F : List ℕ} → Labelled n T F → Reach n F (λ i. false) T F (replicate (2 ^ top_level) 0) 0 n 0
root_reached r = root_reach r (length-replicate {A = ℕ} (2 ^ top_level) 0) (zeros (2 ^ top_level))

root_full : {n : ℕ} {T F W R : List ℕ} → Labelled n T F → Passed n T F (λ i. false) (left_of n T 0) (top_of n T 0) n W R → Full n T F W R
unfolding column row
root_full {n} {T} {F} {W} {R} r h =
    let acc = r.sets.accepted in
    let left : left_of n T 0 ≡ 0 = rw (path_root T n) (omega arith) in
    let top : top_of n T 0 ≡ 0 = rw (path_root T n) (omega arith) in
    record {
      ready = r;
      now = h.now;
      queued = h.queued;
      all = λ i li. h.all i li (record {
        west = omega (arith, left);
        east = omega (arith, left, left_on n T acc i li.water.node);
        north = omega (arith, top);
        south = omega (arith, top, top_on n T acc i li.water.node);
      });
    }

pub all_queued : {n : ℕ} {T F W R : List ℕ} → Labelled n T F → Through T F (replicate (2 ^ top_level) 0) 0 n 0 W R → Full n T F W R
all_queued {n} {T} {F} r g = root_full r (g n F (λ i. false) (root_reached r))

-- once they are counted off
module _ {n : ℕ} {T F W R : List ℕ} (h : Full n T F W R) {count : ℕ} {W₁ : List ℕ} (c : Counted n T F W (2 ^ n * 2 ^ top_level) count W₁) where
  lead : ℕ → ℕ
  lead = h.ready.lead

  -- a leader leads itself, and is the one that the words end at
  leads_own : (p : ℕ) → Leads T F p → lead p ≡ p
  unfolding lead
  leads_own p lp = (h.ready.sets.own p (h.ready.all p lp.water) lp.high).0

  lead_leads : (p : ℕ) → Water T p → Leads T F (lead p)
  unfolding lead
  lead_leads p w =
      let s = h.ready.sets in
      let at = h.ready.all p w in
      let l : ℕ = lead p in
      let there = s.leader p at in
      ⊎_elim
      (λ (low : word_of F l < leading).
      let o = s.on l there low in
      let f = s.first (word_of F l) o.0 in
      absurd (omega (arith, o.2, f, ap (place_of n T) (o.1 ∙ s.once p at))))
      (λ (high : leading ≤ word_of F l). record { water = there.water; high = high })
      (lt_or_ge (word_of F l) leading)

  -- every leader has its number, and any other word is as it was
  covered : (p : ℕ) → Leads T F p → place_of n T p < 2 ^ n * 2 ^ top_level
  unfolding place_of
  covered p lp =
      let acc = h.ready.sets.accepted in
      omega (arith, top_on n T acc p lp.water.node, left_top n T acc p lp.water.node)

  leader_some : (p : ℕ) → Leads T F p → leading < word_of W₁ p
  leader_some p lp = c.some p lp (covered p lp)

  other_still : (p : ℕ) → (Leads T F p → ⊥) → word_of W₁ p ≡ word_of F p
  other_still p off =
      let new : h.now p ≡ false =
      ⊎_elim (λ (t : h.now p ≡ true). absurd (off (h.queued.leads p t))) (λ (t : h.now p ≡ false). t) (by_bool (h.now p)) in
      c.rest p (λ l b. off l) ∙ h.queued.still p new

  root_dry : node_type T 0 ≡ black → ⊥
  root_dry b = omega (arith, eqb-true (node_type T 0) fork_type h.ready.sets.root)

  -- where each word leads, and how far
  end : ℕ → ℕ
  end p = cond (eqb (node_type T p) black) (word_of W₁ (lead p)) leading

  far : ℕ → ℕ
  far p = cond (eqb p 0) 0 (1 + place_of n T p)

  end_water : (p : ℕ) → Water T p → end p ≡ word_of W₁ (lead p)
  unfolding end
  end_water p w = rw (eq-eqb (node_type T p) black w.wet)

  end_dry : (p : ℕ) → (node_type T p ≡ black → ⊥) → end p ≡ leading
  unfolding end
  end_dry p d = rw (ne_eqb (node_type T p) black d)

  far_some : (p : ℕ) → (p ≡ 0 → ⊥) → far p ≡ 1 + place_of n T p
  unfolding far
  far_some p z = rw (ne_eqb p 0 z)

  far_root : far 0 ≡ 0
  unfolding far
  far_root = refl

  marked : List ℕ
  marked = set W₁ 0 leading

  size : length marked ≡ nodes T
  unfolding marked
  size = length-set W₁ 0 leading ∙ (c.long ∙ h.queued.size)

  root_is : word_of marked 0 ≡ leading
  unfolding marked
  root_is = get_or-set_same W₁ 0 leading 0 (omega (arith, c.long, h.queued.size, h.ready.sets.accepted.sized.some))

  other_is : (p : ℕ) → (p ≡ 0 → ⊥) → word_of marked p ≡ word_of W₁ p
  unfolding marked
  other_is p z = get_or-set_other W₁ 0 p leading 0 z

  record Onward (p : ℕ) : Type 0 where
    pub below : word_of marked p < nodes T
    pub same : end (word_of marked p) ≡ end p
    pub near : far (word_of marked p) < far p

  -- a black leaf's word
  water_step : (p : ℕ) → Water T p → (p ≡ 0 → ⊥) → (word_of marked p ≡ end p) ⊎ Onward p
  unfolding lead
  water_step p w z =
      let is = other_is p z in
      let lab = h.ready in
      ⊎_elim
      (λ (low : word_of F p < leading).
      let e : word_of marked p ≡ word_of F p = is ∙ other_still p (λ l. omega (arith, l.high, low)) in
      let o = lab.sets.on p (lab.all p w) low in
      let v = o.0.water in
      let nz : word_of F p ≡ 0 → ⊥ = λ q. root_dry (ap (node_type T) (sym q) ∙ v.wet) in
      inr (record {
        below = rw e v.node;
        same = rw e (end_water (word_of F p) v ∙ (ap (word_of W₁) o.1 ∙ sym (end_water p w)));
        near = rw e (omega (arith, far_some p z, far_some (word_of F p) nz, o.2));
      }))
      (λ (high : leading ≤ word_of F p).
      inl (is ∙ (ap (word_of W₁) (sym (leads_own p (record { water = w; high = high }))) ∙ sym (end_water p w))))
      (lt_or_ge (word_of F p) leading)

  -- any other node's
  dry_step : (p : ℕ) → p < nodes T → (node_type T p ≡ black → ⊥) → (p ≡ 0 → ⊥) → (word_of marked p ≡ end p) ⊎ Onward p
  dry_step p lt d z =
      let e : word_of marked p ≡ word_of F p = other_is p z ∙ other_still p (λ l. d l.water.wet) in
      ⊎_elim
      (λ (v : word_of F p ≡ 0).
      let o : word_of marked p ≡ 0 = e ∙ v in
      inr (record {
        below = omega (arith, o);
        same = rw o (end_dry 0 root_dry ∙ sym (end_dry p d));
        near = rw o (omega (arith, far_root, far_some p z));
      }))
      (λ (v : word_of F p ≡ leading). inl (e ∙ v ∙ sym (end_dry p d)))
      (h.ready.dry p lt d)

  step : (p : ℕ) → p < nodes T → (word_of marked p ≡ end p) ⊎ Onward p
  step p lt =
      ⊎_elim
      (λ (z : p ≡ 0). inl (rw z (root_is ∙ sym (end_dry 0 root_dry))))
      (λ (z : p ≡ 0 → ⊥).
      ⊎_elim
      (λ (b : eqb (node_type T p) black ≡ true). water_step p (record { node = lt; wet = eqb-true (node_type T p) black b }) z)
      (λ (b : eqb (node_type T p) black ≡ false). dry_step p lt (eqb-false (node_type T p) black b) z)
      (by_bool (eqb (node_type T p) black)))
      (same_or p 0)

  end_high : (p : ℕ) → p < nodes T → leading ≤ end p
  end_high p lt =
      ⊎_elim
      (λ (b : eqb (node_type T p) black ≡ true).
      let w : Water T p = record { node = lt; wet = eqb-true (node_type T p) black b } in
      omega (arith, end_water p w, leader_some (lead p) (lead_leads p w)))
      (λ (b : eqb (node_type T p) black ≡ false). omega (arith, end_dry p (eqb-false (node_type T p) black b)))
      (by_bool (eqb (node_type T p) black))

  far_most : (p : ℕ) → p < nodes T → far p ≤ 4 ^ top_level
  unfolding place_of
  far_most p lt =
      let acc = h.ready.sets.accepted in
      ⊎_elim
      (λ (z : p ≡ 0). rw z (omega (arith, far_root)))
      (λ (z : p ≡ 0 → ⊥). omega (arith, far_some p z, top_top n T acc p lt, left_top n T acc p lt))
      (same_or p 0)

  full_ends : Ends (set W₁ 0 leading) end far
  unfolding marked
  full_ends =
      let few : nodes T < leading = words_few h.ready.sets.accepted in
      record {
        few = omega (arith, size, few);
        top = λ p lt g. ⊎_elim (λ e. e) (λ (o : Onward p). absurd (omega (arith, o.below))) (step p (omega (arith, size)));
        low = λ p lt l.
            ⊎_elim
            (λ (e : word_of marked p ≡ end p). absurd (omega (arith, end_high p (omega (arith, size)))))
            (λ (o : Onward p). omega (arith, o.below, size))
            (step p (omega (arith, size)));
        same = λ p lt l.
            ⊎_elim
            (λ (e : word_of marked p ≡ end p). absurd (omega (arith, end_high p (omega (arith, size)))))
            (λ (o : Onward p). o.same)
            (step p (omega (arith, size)));
        near = λ p lt l.
            ⊎_elim
            (λ (e : word_of marked p ≡ end p). absurd (omega (arith, end_high p (omega (arith, size)))))
            (λ (o : Onward p). o.near)
            (step p (omega (arith, size)));
        high = λ p lt. end_high p (omega (arith, size));
        soon = λ p lt. far_most p (omega (arith, size));
      }

  pub full_ending : Ending (set W₁ 0 leading)
  full_ending = record { end = end; far = far; ends = full_ends }

  -- with the words settled
  module _ {W₂ : List ℕ} (s : Settled (set W₁ 0 leading) W₂) where
    long : length W₂ ≡ nodes T
    unfolding marked
    long = s.long ∙ size

    ended : (p : ℕ) → p < nodes T → word_of W₂ p ≡ end p
    unfolding marked
    ended p lt = s.all end far full_ends p (omega (arith, size))

    pub full_finishing : Finishing W₂
    full_finishing p lt = omega (arith, ended p (omega (arith, long)), end_high p (omega (arith, long)))

    -- and the mark taken off
    module _ {W₃ : List ℕ} (f : Finished W₂ W₃) where
      word_is : (p : ℕ) → p < nodes T → word_of W₃ p ≡ end p - leading
      word_is p lt = f.all p (omega (arith, long)) ∙ ap (λ (w : ℕ). w - leading) (ended p lt)

      word_water : (p : ℕ) → Water T p → word_of W₃ p ≡ word_of W₁ (lead p) - leading
      word_water p w = word_is p w.node ∙ ap (λ (k : ℕ). k - leading) (end_water p w)

      word_leads : (p : ℕ) → Leads T F p → word_of W₃ p ≡ word_of W₁ p - leading
      word_leads p lp = rw (leads_own p lp) at (word_water p lp.water)

      -- the first of two leaders has the lower number
      in_order : (p q : ℕ) → Leads T F p → Leads T F q → place_of n T p < place_of n T q → word_of W₃ p < word_of W₃ q
      in_order p q lp lq lt =
          omega (arith, word_leads p lp, word_leads q lq, leader_some p lp, c.order p q lp lq lt (covered q lq))

      -- two leaders of one number
      one_leader : (p q : ℕ) → Leads T F p → Leads T F q → word_of W₃ p ≡ word_of W₃ q → p ≡ q
      one_leader p q lp lq e =
          ⊎_elim
          (λ (l : place_of n T p < place_of n T q). absurd (omega (arith, in_order p q lp lq l)))
          (λ (ge : place_of n T q ≤ place_of n T p).
          ⊎_elim
          (λ (l : place_of n T q < place_of n T p). absurd (omega (arith, in_order q p lq lp l)))
          (λ (le : place_of n T p ≤ place_of n T q). place_only h.ready.sets.accepted lp.water lq.water (omega arith))
          (lt_or_ge (place_of n T q) (place_of n T p)))
          (lt_or_ge (place_of n T p) (place_of n T q))

      same_word : (p : ℕ) → Water T p → word_of W₃ p ≡ word_of W₃ (lead p)
      same_word p w = word_water p w ∙ sym (word_leads (lead p) (lead_leads p w))

      pub full_ranked : Ranked n T W₃ count
      unfolding lead
      full_ranked =
          let lab = h.ready in
          let ch : (p : ℕ) → Water T p → Chain n T p (lead p) = λ p w. lab.sets.chain p (lab.all p w) in
          let own : (p : ℕ) → Water T p → lead p ≡ p → Leads T F p = λ p w e. rw e at (lead_leads p w) in
          record {
            each = f.long ∙ long;
            dry = λ p lt d. omega (arith, word_is p lt, end_dry p d);
            lead = lead;
            chain = ch;
            first = λ p w. lab.sets.first p (lab.all p w);
            one = lab.one;
            same = same_word;
            some = λ p w. omega (arith, word_water p w, leader_some (lead p) (lead_leads p w));
            few = λ p w. let l = lead_leads p w in omega (arith, word_water p w, c.most (lead p) l (covered (lead p) l));
            order = λ p q wp wq ep eq l. in_order p q (own p wp ep) (own q wq eq) l;
            apart = λ p q wp wq e.
                let m = one_leader (lead p) (lead q) (lead_leads p wp) (lead_leads q wq) (sym (same_word p wp) ∙ (e ∙ same_word q wq)) in
                chain_joined n T p (lead q) q (rw m at (ch p wp)) (chain_back n T q (lead q) (ch q wq));
            all = λ k pos le.
                let i = c.each k pos le in
                (i.0, i.1.water, leads_own i.0 i.1, omega (arith, word_leads i.0 i.1, i.3));
          }

-- the same, `side` being what the code has for 2 ^ n
module _ {n : ℕ} {T F W R : List ℕ} (h : Full n T F W R) {side : ℕ} (e : side ≡ 2 ^ n) where
  pub rows_asked : Rows W R side
  rows_asked = record { n = n; T = T; F = F; full = h; within = rw e (pow_mono {i = n} {j = top_level} h.ready.sets.accepted.sized.level) }

  pub counted_off : {count : ℕ} {W₁ : List ℕ} → RowsOff W R side count W₁ → Counted n T F W (2 ^ n * 2 ^ top_level) count W₁
  unfolding rows_asked
  counted_off o = rw e at (o rows_asked)
