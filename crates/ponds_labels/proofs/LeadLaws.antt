-- From no leaf placed to all of them: the root's block is the sheet.
use mathlib.Core.Bool.{true, true≢false}
use mathlib.Core.List.{List, []}
use mathlib.Core.Logic.{inl, inr}
use mathlib.Core.Path.{◌≡◌, refl, sym, ◌∙◌}
use Prim.Native.Nat.{ℕ, zero, suc, ◌+◌, ◌-◌, ◌<◌}
use native.Mathlib.Omega.{arith}
use lib.ListN.{get_or, replicate}
use Rattle.std.proofs.lemmas.List.{length-replicate}
use borrow.Author.Tests.{eqb-true}
use Rattle.quad.specs.Numbers.{black, fork_type}
use Rattle.quad.specs.Block.{column, row}
use Rattle.quad.specs.Direction.{east_step, south_step}
use Rattle.quad.proofs.TreeLaws.{by_quadrant}
use Rattle.table.specs.Table.{nodes, node_type, is_fork}
use Rattle.table.specs.Nodes.{path_to, left_of, top_of, level_of}
use Rattle.table.specs.Rules.{Accepted}
use Rattle.table.proofs.AcceptedLaws.{root_at}
use Rattle.neighbour.proofs.SideLaws.{on_sheet}
use Rattle.ponds.specs.Chain.{Water, Chain, end, link}
use Rattle.ponds.specs.Words.{word_of}
use Rattle.ponds.proofs.ChainLaws.{chain_start}
use Rattle.ponds_sets.specs.Sets.{leading, Placed, Begins, Bare, Dark, as_before, none, marked}
use Rattle.ponds_sets.specs.Lines.{Has, across}
use Rattle.ponds_sets.specs.Walk.{Coming, Gone, Goes}
use Rattle.ponds_sets.specs.Labelled.{Labelled}
use Rattle.ponds_sets.proofs.PlaceLaws.{has_contains, contains_has, has_moved, own_pixel}

-- the root's path is empty
root_path : (T : List ℕ) (n : ℕ) → path_to T n 0 ≡ []
unfolding path_to
root_path T zero = refl
root_path T (suc n) = refl

get_d_zeros : (k i : ℕ) → ◌≡◌ {A = ℕ} (get_or (replicate k 0) i 0) 0
get_d_zeros zero i = refl
get_d_zeros (suc k) zero = refl
get_d_zeros (suc k) (suc i) = get_d_zeros k i

-- a word that was 0, and is no black leaf's
dark_cases : {A : Type 0} {n : ℕ} {T W W' : List ℕ} {i : ℕ} → Dark n T W W' i → word_of W i ≡ 0 → (word_of W' i ≡ 0 → A)
    → (is_fork T i ≡ true → word_of W' i ≡ leading → Bare n T W' (left_of n T i) (top_of n T i) (level_of n T i) → A) → A
dark_cases (as_before e) z a b = a (e ∙ z)
dark_cases (none e) z a b = a e
dark_cases (marked k e h) z a b = b k e h

module _ {n : ℕ} {T W : List ℕ} (acc : Accepted n T) (f : is_fork T 0 ≡ true) (c : W ≡ replicate (nodes T) 0) where
  zeros : (i : ℕ) → i < nodes T → word_of W i ≡ 0
  zeros i l = rw c (get_d_zeros (nodes T) i)

  -- nothing is placed
  unplaced : {A : Type 0} (i : ℕ) → Placed T W i → A
  unplaced i h = absurd (h.some (zeros i h.water.node))

  at_start : (left_of n T 0 ≡ 0) × (top_of n T 0 ≡ 0)
  unfolding column row
  at_start = (rw (root_path T n) (omega arith), rw (root_path T n) (omega arith))

  pub lead_coming : (L : List ℕ) → L ≡ replicate 256 0 → Coming T W L 0 0 0 n
  lead_coming L e = record {
    n = n;
    lead = λ i. i;
    sets = record {
      accepted = acc;
      each = rw c (length-replicate (nodes T) 0);
      root = f;
      own = λ i h. unplaced i h;
      on = λ i h. unplaced i h;
      chain = λ i h. unplaced i h;
      leader = λ i h. unplaced i h;
      once = λ i h. unplaced i h;
      first = λ i h. unplaced i h;
    };
    long = rw e;
    at = root_at acc;
    left = at_start.0;
    top = at_start.1;
    met = λ i h. unplaced i h;
    lines = record {
      north = λ u a b. record { off = λ z. rw e (get_d_zeros 256 u); on = λ z. absurd (omega (arith, z)) };
      west = λ u a b. record { off = λ z. rw e (get_d_zeros 256 (across + u)); on = λ z. absurd (omega (arith, z)) };
    };
    free = λ i w b. zeros i w.node;
  }

  -- every node begins on the sheet
  begins_all : (i : ℕ) → Water T i → Begins n T i 0 0 n
  begins_all i w =
      let o = on_sheet n T acc i n (left_of n T i) (top_of n T i) (has_contains (own_pixel i w.node)) in
      record { west = omega arith; east = omega (arith, o.0); north = omega arith; south = omega (arith, o.1) }

  module _ (W' L' : List ℕ) (r : ℕ) (L : List ℕ) (g : Gone n T W (λ i. i) L 0 0 n W' L' r) where
    all : (i : ℕ) → Water T i → Placed T W' i
    all i w = g.placed i w (begins_all i w)

    -- two leaves that share a length of side
    touching : (D : ℕ) → D < 4 → (p q x y : ℕ) → Water T p → Water T q → 0 < x + east_step D → 0 < y + south_step D → Has n T p x y
        → Has n T q (x + east_step D - 1) (y + south_step D - 1) → g.lead' p ≡ g.lead' q
    unfolding east_step south_step
    touching =
        by_quadrant
        (λ (D : ℕ). (p q x y : ℕ) → Water T p → Water T q → 0 < x + east_step D → 0 < y + south_step D → Has n T p x y
        → Has n T q (x + east_step D - 1) (y + south_step D - 1) → g.lead' p ≡ g.lead' q)
        (λ p q x y wp wq ex ey hp hq. sym ((g.met p (all p wp) x y hp).north (omega (arith, ey)) q wq (has_moved (omega arith) (omega arith) hq)).1)
        (λ p q x y wp wq ex ey hp hq. ((g.met q (all q wq) (x + 1) y (has_moved (omega arith) (omega arith) hq)).west (omega arith) p wp (has_moved (omega arith) refl hp)).1)
        (λ p q x y wp wq ex ey hp hq. ((g.met q (all q wq) x (y + 1) (has_moved (omega arith) (omega arith) hq)).north (omega arith) p wp (has_moved refl (omega arith) hp)).1)
        (λ p q x y wp wq ex ey hp hq. sym ((g.met p (all p wp) x y hp).west (omega (arith, ex)) q wq (has_moved (omega arith) (omega arith) hq)).1)

    one : (p q : ℕ) → Chain n T p q → g.lead' p ≡ g.lead' q
    one p q (end w) = refl
    one p q (link {q = k} w s d) =
        touching s.side s.straight p k s.x s.y w (chain_start n T k q d) s.touch.east s.touch.south (contains_has s.touch.here) (contains_has s.touch.beyond)
        ∙ one k q d

    dark : {A : Type 0} (i : ℕ) → i < nodes T → (node_type T i ≡ black → ⊥) → (word_of W' i ≡ 0 → A)
        → (is_fork T i ≡ true → word_of W' i ≡ leading → Bare n T W' (left_of n T i) (top_of n T i) (level_of n T i) → A) → A
    dark i l nb a b = dark_cases (g.further.dark i nb) (zeros i l) a b

    pub all_labelled : Labelled n T W'
    all_labelled = record {
      lead = g.lead';
      sets = g.further.sets;
      all = all;
      white = λ i l nf nb. dark i l nb (λ e. e) (λ k e h. absurd (true≢false (sym k ∙ nf)));
      dry = λ i l nb. dark i l nb (λ e. inl e) (λ k e h. inr e);
      one = one;
      marks = λ i l k e.
          dark i l (λ b. omega (arith, b, eqb-true (node_type T i) fork_type k)) (λ o. absurd (omega (arith, o, e))) (λ k' e' h. h);
    }

-- in the code's own values
pub lead_labelled : {n : ℕ} {T W L : List ℕ} → Accepted n T → is_fork T 0 ≡ true → W ≡ replicate (nodes T) 0 → L ≡ replicate 256 0
    → (W' L' : List ℕ) (r : ℕ) → Goes T W L 0 0 0 n W' L' r → Labelled n T W'
unfolding lead_coming
lead_labelled {L = L} acc f c e W' L' r g = all_labelled acc f c W' L' r L (g (lead_coming acc f c L e))
