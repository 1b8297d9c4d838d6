-- Counting off: the next in a queue is the leader with the next place, so it gets the next number, and those before it
-- keep theirs.
use mathlib.Core.Bool.{Bool}
use mathlib.Core.List.{List}
use mathlib.Core.Logic.{⊎_elim}
use mathlib.Core.Path.{◌≡◌, refl, ap, sym, ◌∙◌}
use Prim.Native.Nat.{ℕ, ◌+◌, ◌*◌, ◌^◌, ◌≤◌, ◌<◌}
use native.Mathlib.Omega.{arith}
use lib.ListN.{length, set, length-set}
use lib.Seq.{get_or-set_same, get_or-set_other}
use Rattle.base.proofs.BoolLaws.{lt_or_ge}
use Rattle.quad.specs.Numbers.{top_level}
use Rattle.table.specs.Nodes.{left_of, top_of}
use Rattle.ponds.specs.Words.{word_of}
use Rattle.ponds_sets.specs.Sets.{leading, place_of}
use Rattle.ponds_queues.specs.Queues.{row_of, Leads, Ahead, Full}
use Rattle.ponds_ranks.specs.Counts.{Counted, Row, RowOff, Rows, RowsOff}
use Rattle.ponds_queues.proofs.WordLaws.{same_or}
use Rattle.ponds_queues.proofs.PlaceLaws.{left_top, place_only}

-- none yet
pub counted_none : (n : ℕ) (T F W : List ℕ) → Counted n T F W 0 0 W
counted_none n T F W = record {
  long = refl;
  rest = λ i off. refl;
  some = λ i l b. absurd (omega (arith, b));
  most = λ i l b. absurd (omega (arith, b));
  order = λ i j l m p b. absurd (omega (arith, b));
  each = λ k pos le. absurd (omega (arith, pos, le));
  few = omega arith;
}

-- no leader between two places
pub counted_wider : {n : ℕ} {T F W : List ℕ} {b count : ℕ} {W' : List ℕ} (b' : ℕ) → b ≤ b' → ((i : ℕ) → Leads T F i → b ≤ place_of n T i → place_of n T i < b' → ⊥)
    → Counted n T F W b count W' → Counted n T F W b' count W'
counted_wider {n} {T} {F} {W} {b} b' le none c =
    let before : (i : ℕ) → Leads T F i → place_of n T i < b' → place_of n T i < b =
    λ i l p. ⊎_elim (λ (q : place_of n T i < b). q) (λ (q : b ≤ place_of n T i). absurd (none i l q p)) (lt_or_ge (place_of n T i) b) in
    record {
      long = c.long;
      rest = λ i off. c.rest i (λ l p. off l (omega (arith, p, le)));
      some = λ i l p. c.some i l (before i l p);
      most = λ i l p. c.most i l (before i l p);
      order = λ i j l m p q. c.order i j l m p (before j m q);
      each = λ k pos few. let t = c.each k pos few in (t.0, t.1, omega (arith, t.2, le), t.3);
      few = omega (arith, c.few, le);
    }

-- the leader at the next place
module _ {n : ℕ} {T F W R : List ℕ} (h : Full n T F W R) {b count : ℕ} {W' : List ℕ} (c : Counted n T F W b count W') (m : ℕ) (lm : Leads T F m)
    (at : place_of n T m ≡ b) where
  abbrev v : ℕ
  v = leading + (count + 1)

  is : word_of (set W' m v) m ≡ v
  is = get_or-set_same W' m v 0 (omega (arith, c.long, h.queued.size, lm.water.node))

  else : (i : ℕ) → (i ≡ m → ⊥) → word_of (set W' m v) i ≡ word_of W' i
  else i ne = get_or-set_other W' m i v 0 ne

  apart : (i : ℕ) → place_of n T i < b → i ≡ m → ⊥
  apart i p e = omega (arith, p, at, ap (place_of n T) e)

  -- a leader up to here is m, or begins before
  up_to : (i : ℕ) → Leads T F i → place_of n T i < b + 1 → (i ≡ m → ⊥) → place_of n T i < b
  up_to i l p ne =
      ⊎_elim
      (λ (q : place_of n T i < b). q)
      (λ (q : b ≤ place_of n T i). absurd (ne (place_only h.ready.sets.accepted l.water lm.water (omega (arith, p, q, at)))))
      (lt_or_ge (place_of n T i) b)

  pub counted_more : Counted n T F W (b + 1) (count + 1) (set W' m v)
  counted_more = record {
    long = length-set W' m v ∙ c.long;
    rest = λ i off. else i (λ e. off (rw e lm) (rw e (omega (arith, at)))) ∙ c.rest i (λ l p. off l (omega (arith, p)));
    some = λ i l p.
        ⊎_elim
        (λ (e : i ≡ m). rw (e, is) (omega arith))
        (λ (ne : i ≡ m → ⊥). rw (else i ne) (c.some i l (up_to i l p ne)))
        (same_or i m);
    most = λ i l p.
        ⊎_elim
        (λ (e : i ≡ m). rw (e, is) (omega arith))
        (λ (ne : i ≡ m → ⊥). rw (else i ne) (omega (arith, c.most i l (up_to i l p ne))))
        (same_or i m);
    order = λ i j l k p q.
        ⊎_elim
        (λ (e : j ≡ m).
        let o : place_of n T i < b = omega (arith, p, at, ap (place_of n T) e) in
        rw (e, is, else i (apart i o)) (omega (arith, c.most i l o)))
        (λ (ne : j ≡ m → ⊥).
        let o = up_to j k q ne in
        rw (else j ne, else i (apart i (omega (arith, p, o)))) (c.order i j l k p o))
        (same_or j m);
    each = λ k pos few.
        ⊎_elim
        (λ (e : k ≡ count + 1). (m, lm, omega (arith, at), is ∙ ap (λ (a : ℕ). leading + a) (sym e)))
        (λ (ne : k ≡ count + 1 → ⊥).
        let t = c.each k pos (omega (arith, few, ne)) in
        (t.0, t.1, omega (arith, t.2), else t.0 (apart t.0 t.2) ∙ t.3))
        (same_or k (count + 1));
    few = omega (arith, c.few);
  }

-- with the leaders of row y counted off up to column x, `at` being the next
pub record Going (n : ℕ) (T F W : List ℕ) (now : ℕ → Bool) (y at count : ℕ) (W' : List ℕ) : Type 0 where
  pub x : ℕ
  pub wide : x ≤ 2 ^ top_level
  pub ahead : Ahead n T now y x at
  pub counted : Counted n T F W (y * 2 ^ top_level + x) count W'

-- a leader of row y by its place
in_row : {n : ℕ} {T F W R : List ℕ} → Full n T F W R → (y i : ℕ) → Leads T F i → y * 2 ^ top_level ≤ place_of n T i → place_of n T i < (y + 1) * 2 ^ top_level → top_of n T i ≡ y
unfolding place_of
in_row {n} {T} h y i l a b = let w = left_top n T h.ready.sets.accepted i l.water.node in omega (arith, a, b, w)

module _ {n : ℕ} {T F W R : List ℕ} (h : Full n T F W R) {y at count : ℕ} {W' : List ℕ} (row : y < 2 ^ top_level) (g : Going n T F W h.now y at count W') where
  -- a row that has no more
  pub going_all : at ≡ 0 → Counted n T F W ((y + 1) * 2 ^ top_level) count W'
  unfolding place_of
  going_all z =
      counted_wider ((y + 1) * 2 ^ top_level) (omega (arith, g.wide)) (λ i l a b.
      let t = in_row h y i l (omega (arith, a)) b in
      g.ahead.none z i (h.all i l) t (omega (arith, a, t)))
      g.counted

  module _ (some : at ≡ 0 → ⊥) where
    leader : Leads T F at
    leader = h.queued.leads at (g.ahead.some some).0

    pub going_node : at < length W'
    going_node = omega (arith, g.counted.long, h.queued.size, leader.water.node)

    uncounted : word_of W' at ≡ word_of W at
    unfolding place_of
    uncounted = let k = g.ahead.some some in g.counted.rest at (λ l p. omega (arith, p, k.1, k.2))

    pub going_less : count < 4 ^ top_level
    going_less =
        let k = g.ahead.some some in
        omega (arith, g.counted.few, k.2, left_top n T h.ready.sets.accepted at leader.water.node, row)

    pub going_more : Going n T F W h.now y (word_of W' at) (count + 1) (set W' at (leading + (count + 1)))
    unfolding place_of
    going_more =
        let k = g.ahead.some some in
        let p : ℕ = place_of n T at in
        let here : p ≡ y * 2 ^ top_level + left_of n T at = omega (arith, k.1) in
        let room = left_top n T h.ready.sets.accepted at leader.water.node in
        let up = counted_wider p (omega (arith, here, k.2)) (λ i l a b.
        let t = in_row h y i l (omega (arith, a)) (omega (arith, b, here, room)) in
        omega (arith, a, b, here, t, g.ahead.first i (h.all i l) t (omega (arith, a, t))))
        g.counted in
        let e : y * 2 ^ top_level + (left_of n T at + 1) ≡ p + 1 = omega (arith, here) in
        record {
          x = left_of n T at + 1;
          wide = omega (arith, room);
          ahead = rw (uncounted, ← k.1) (h.queued.nexts at k.0);
          counted = rw e (counted_more h up at leader refl);
        }

-- the same in the code's own values
abbrev pub Rowing : List ℕ → ℕ → ℕ → ℕ → ℕ → List ℕ → Type 0
Rowing W' first before count at W'' = (z : Row W' first before) → Going z.n z.T z.F z.W z.full.now z.y at count W''

pub rowing_none : {W' : List ℕ} {first before : ℕ} → Rowing W' first before before first W'
rowing_none z =
    let e : z.y * 2 ^ top_level + 0 ≡ z.y * 2 ^ top_level = omega arith in
    record { x = 0; wide = omega arith; ahead = rw z.head (z.full.queued.heads z.y); counted = rw e z.counted }

pub rowing_all : {W' : List ℕ} {first before count at : ℕ} {W'' : List ℕ} → Rowing W' first before count at W'' → at ≡ 0 → RowOff W' first before count W''
rowing_all g e z = going_all z.full z.row (g z) e

-- the rows before y counted off
abbrev pub Rowings : List ℕ → List ℕ → ℕ → ℕ → ℕ → List ℕ → Type 0
Rowings W R side y count W' = (z : Rows W R side) → Counted z.n z.T z.F W (y * 2 ^ top_level) count W'

pub rowings_none : {W R : List ℕ} {side : ℕ} → Rowings W R side 0 0 W
rowings_none z = counted_none z.n z.T z.F _

module _ {W R : List ℕ} {side y count : ℕ} {W' : List ℕ} (g : Rowings W R side y count W') (lt : y < side) (first : ℕ) (e : first ≡ row_of R y) where
  pub rowings_row : Rows W R side → Row W' first count
  rowings_row z = record {
    n = z.n;
    T = z.T;
    F = z.F;
    W = W;
    R = R;
    y = y;
    full = z.full;
    head = e;
    row = omega (arith, lt, z.within);
    counted = g z;
  }

  pub rowings_more : (count' : ℕ) (W'' : List ℕ) → RowOff W' first count count' W'' → Rowings W R side (y + 1) count' W''
  unfolding rowings_row
  rowings_more count' W'' o z = o (rowings_row z)

pub rowings_all : {W R : List ℕ} {side y count : ℕ} {W' : List ℕ} → Rowings W R side y count W' → y ≤ side → side ≤ y → RowsOff W R side count W'
rowings_all {side = side} {y} g a b = let e : y ≡ side = omega arith in rw e at g
