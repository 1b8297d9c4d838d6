-- The walk at a fork: its four quadrants gone through in turn, NW, NE, SW, SE, each after what lies north and west of
-- it.
use mathlib.Core.Bool.{true}
use mathlib.Core.List.{List, [], ◌∷◌}
use mathlib.Core.Logic.{⊎_elim}
use mathlib.Core.Path.{◌≡◌, refl, ap, sym, ◌∙◌}
use Prim.Native.Nat.{ℕ, ◌+◌, ◌-◌, ◌*◌, ◌/◌, ◌%◌, ◌^◌, ◌≤◌, ◌<◌}
use native.Mathlib.Nat.{pow-le-pow_right}
use native.Mathlib.Omega.{arith}
use lib.ListN.{length, get_or, set}
use lib.Pow.{pow_pos}
use borrow.Author.Tests.{eqb-true, eq-eqb, ne_eqb}
use Rattle.base.proofs.BoolLaws.{lt_or_ge}
use Rattle.quad.specs.Numbers.{fork_type, top_level}
use Rattle.quad.proofs.TreeLaws.{by_quadrant}
use Rattle.table.specs.Table.{nodes, son, node_type, is_fork}
use Rattle.table.specs.Nodes.{left_of, top_of, side_of}
use Rattle.table.specs.Rules.{AtLevel}
use Rattle.table.proofs.AcceptedLaws.{fork_above, level_is, level_top, son_at}
use Rattle.ponds.specs.Chain.{Water}
use Rattle.ponds.specs.Words.{word_of}
use Rattle.ponds.proofs.SonLaws.{son_side, son_left, son_top}
use Rattle.ponds.proofs.NodeLaws.{same_or_not, last_or_before}
use Rattle.ponds_sets.specs.Sets.{leading, Placed, Begins, Dark, as_before, none, marked, Further}
use Rattle.ponds_sets.specs.Lines.{Has, Line, Met, across}
use Rattle.ponds_sets.specs.Touch.{first_nonzero, mark_of}
use Rattle.ponds_sets.specs.Walk.{Lines, Left, Coming, Gone, Goes, ToLeaf, PastLeaf}
use Rattle.ponds_sets.proofs.PlaceLaws.{own_pixel, has_across}
use Rattle.ponds_sets.proofs.SetsLaws.{Changed, changed, further_none, further_on}
use Rattle.ponds_sets.proofs.PlacedLaws.{further_same}
use Rattle.ponds_sets.proofs.TouchLaws.{nonzero_second, nonzero_first}
use Rattle.ponds_sets.proofs.LineLaws.{line_still, met_still}

-- where quadrant q of a block begins, whose quadrants have side h
abbrev pub across_to : ℕ → ℕ → ℕ → ℕ
across_to x h q = x + q % 2 * h

abbrev pub down_to : ℕ → ℕ → ℕ → ℕ
down_to y h q = y + q / 2 * h

-- how many of the first q quadrants lie in the western and in the eastern columns, and in the northern and in the
-- southern rows
unfoldable pub western : ℕ → ℕ
western q = get_or (0 ∷ 1 ∷ 1 ∷ 2 ∷ 2 ∷ []) q 0

unfoldable pub eastern : ℕ → ℕ
eastern q = get_or (0 ∷ 0 ∷ 1 ∷ 1 ∷ 2 ∷ []) q 0

unfoldable pub northern : ℕ → ℕ
northern q = get_or (0 ∷ 1 ∷ 2 ∷ 2 ∷ 2 ∷ []) q 0

unfoldable pub southern : ℕ → ℕ
southern q = get_or (0 ∷ 0 ∷ 0 ∷ 1 ∷ 2 ∷ []) q 0

module _ (n : ℕ) (T : List ℕ) (i x y h half : ℕ) (is : h ≡ 2 ^ half) where
  abbrev Both : ℕ → ℕ → Type 0
  Both k q = (k ≡ q → ⊥) → Begins n T i (across_to x h k) (down_to y h k) half → Begins n T i (across_to x h q) (down_to y h q) half → ⊥

  -- a leaf begins in one quadrant alone, and in the block
  pub quadrants_apart : (k : ℕ) → k < 4 → (q : ℕ) → q < 4 → (k ≡ q → ⊥) → Begins n T i (across_to x h k) (down_to y h k) half
      → Begins n T i (across_to x h q) (down_to y h q) half → ⊥
  quadrants_apart =
      by_quadrant (λ (k : ℕ). (q : ℕ) → q < 4 → Both k q)
      (by_quadrant (λ (q : ℕ). Both 0 q) (λ z a b. z refl) (λ z a b. omega (arith, a.east, b.west, is)) (λ z a b. omega (arith, a.south, b.north, is)) (λ z a b. omega (arith, a.south, b.north, is)))
      (by_quadrant (λ (q : ℕ). Both 1 q) (λ z a b. omega (arith, b.east, a.west, is)) (λ z a b. z refl) (λ z a b. omega (arith, a.south, b.north, is)) (λ z a b. omega (arith, a.south, b.north, is)))
      (by_quadrant (λ (q : ℕ). Both 2 q) (λ z a b. omega (arith, b.south, a.north, is)) (λ z a b. omega (arith, b.south, a.north, is)) (λ z a b. z refl) (λ z a b. omega (arith, a.east, b.west, is)))
      (by_quadrant (λ (q : ℕ). Both 3 q) (λ z a b. omega (arith, b.south, a.north, is)) (λ z a b. omega (arith, b.south, a.north, is)) (λ z a b. omega (arith, b.east, a.west, is)) (λ z a b. z refl))

  module _ (l : ℕ) (whole : 2 ^ l ≡ 2 * h) where
    pub quadrant_within : (q : ℕ) → q < 4 → Begins n T i (across_to x h q) (down_to y h q) half → Begins n T i x y l
    quadrant_within =
        by_quadrant (λ (q : ℕ). Begins n T i (across_to x h q) (down_to y h q) half → Begins n T i x y l)
        (λ b. record { west = omega (arith, b.west); east = omega (arith, b.east, is, whole); north = omega (arith, b.north); south = omega (arith, b.south, is, whole) })
        (λ b. record { west = omega (arith, b.west); east = omega (arith, b.east, is, whole); north = omega (arith, b.north); south = omega (arith, b.south, is, whole) })
        (λ b. record { west = omega (arith, b.west); east = omega (arith, b.east, is, whole); north = omega (arith, b.north); south = omega (arith, b.south, is, whole) })
        (λ b. record { west = omega (arith, b.west); east = omega (arith, b.east, is, whole); north = omega (arith, b.north); south = omega (arith, b.south, is, whole) })

    pub some_quadrant : Begins n T i x y l → (q : ℕ) × (q < 4) × Begins n T i (across_to x h q) (down_to y h q) half
    some_quadrant b =
        let x' = left_of n T i in
        let y' = top_of n T i in
        ⊎_elim
        (λ (w : x' < x + h).
        ⊎_elim
        (λ (t : y' < y + h). (0, omega arith, record { west = omega (arith, b.west); east = omega (arith, w, is); north = omega (arith, b.north); south = omega (arith, t, is) }))
        (λ (t : y + h ≤ y'). (2, omega arith, record { west = omega (arith, b.west); east = omega (arith, w, is); north = omega (arith, t); south = omega (arith, b.south, is, whole) }))
        (lt_or_ge y' (y + h)))
        (λ (w : x + h ≤ x').
        ⊎_elim
        (λ (t : y' < y + h). (1, omega arith, record { west = omega (arith, w); east = omega (arith, b.east, is, whole); north = omega (arith, b.north); south = omega (arith, t, is) }))
        (λ (t : y + h ≤ y'). (3, omega arith, record { west = omega (arith, w); east = omega (arith, b.east, is, whole); north = omega (arith, t); south = omega (arith, b.south, is, whole) }))
        (lt_or_ge y' (y + h)))
        (lt_or_ge x' (x + h))

-- a line at the same place, said otherwise
pub line_moved : {n : ℕ} {T W : List ℕ} {f : ℕ → ℕ} {e x y v : ℕ} (e' x' y' : ℕ) → e' ≡ e → x' ≡ x → y' ≡ y → Line n T W f e x y v → Line n T W f e' x' y' v
line_moved e' x' y' a b c h = rw (a, b, c) h

-- a fork's son begins a quadrant on
module _ {n : ℕ} {T : List ℕ} {m l : ℕ} (at : AtLevel n T m l) (f : is_fork T m ≡ true) where
  son_wide : (q : ℕ) → q < 4 → side_of n T (son T m q) ≡ 2 ^ (l - 1)
  son_wide q q4 = ap (λ (k : ℕ). 2 ^ k) (sym (level_is (son_at at f q q4)))

  pub twice : 2 ^ l ≡ 2 * 2 ^ (l - 1)
  twice =
      let z : 0 < 4 = omega arith in
      ap (λ (k : ℕ). 2 ^ k) (level_is at) ∙ son_side at.accepted at.node f 0 z ∙ ap (λ (k : ℕ). 2 * k) (son_wide 0 z)

  pub son_begins : (q : ℕ) → q < 4 → (left_of n T (son T m q) ≡ across_to (left_of n T m) (2 ^ (l - 1)) q) × (top_of n T (son T m q) ≡ down_to (top_of n T m) (2 ^ (l - 1)) q)
  son_begins q q4 = (
    son_left at.accepted at.node f q q4 ∙ ap (λ (k : ℕ). left_of n T m + q % 2 * k) (son_wide q q4),
    son_top at.accepted at.node f q q4 ∙ ap (λ (k : ℕ). top_of n T m + q / 2 * k) (son_wide q q4),
  )

-- what the lines L tell once the first q quadrants of the block at (x, y), each of side h, have been gone through
pub record Halves (n : ℕ) (T W : List ℕ) (lead : ℕ → ℕ) (L : List ℕ) (x y h q : ℕ) : Type 0 where
  pub west_half : (u : ℕ) → x ≤ u → u < x + h → Line n T W lead (y + western q * h) u (y + western q * h - 1) (get_or L u 0)
  pub east_half : (u : ℕ) → x + h ≤ u → u < x + 2 * h → Line n T W lead (y + eastern q * h) u (y + eastern q * h - 1) (get_or L u 0)
  pub north_half : (v : ℕ) → y ≤ v → v < y + h → Line n T W lead (x + northern q * h) (x + northern q * h - 1) v (get_or L (across + v) 0)
  pub south_half : (v : ℕ) → y + h ≤ v → v < y + 2 * h → Line n T W lead (x + southern q * h) (x + southern q * h - 1) v (get_or L (across + v) 0)

-- and all that has been done with them
pub record First (n : ℕ) (T W : List ℕ) (lead : ℕ → ℕ) (L : List ℕ) (x y h half q : ℕ) (W' L' : List ℕ) (r : ℕ) : Type 0 where
  pub lead' : ℕ → ℕ
  pub further : Further n T W lead W' lead'
  pub met : (i : ℕ) → Placed T W' i → Met n T W' lead' i
  pub long : length L' ≡ length L
  pub halves : Halves n T W' lead' L' x y h q
  pub rest : (i : ℕ) → (x ≤ i → i < x + 2 * h → ⊥) → (across + y ≤ i → i < across + y + 2 * h → ⊥) → get_or L' i 0 ≡ get_or L i 0
  pub placed : (k : ℕ) → k < q → (i : ℕ) → Water T i → Begins n T i (across_to x h k) (down_to y h k) half → Placed T W' i
  pub free : (k : ℕ) → q ≤ k → k < 4 → (i : ℕ) → Water T i → Begins n T i (across_to x h k) (down_to y h k) half → word_of W' i ≡ 0
  pub others : (l i : ℕ) → 2 ^ l ≡ 2 * h → Water T i → (Begins n T i x y l → ⊥) → word_of W i ≡ 0 → word_of W' i ≡ 0
  pub none : r ≡ 0 → (k : ℕ) → k < q → (i : ℕ) → Water T i → Begins n T i (across_to x h k) (down_to y h k) half → word_of W' i < leading

pub first_other : {n : ℕ} {T W : List ℕ} {lead : ℕ → ℕ} {L : List ℕ} {x y h half q : ℕ} {W' L' : List ℕ} {r : ℕ} (r' : ℕ) → (r' ≡ 0 → r ≡ 0)
    → First n T W lead L x y h half q W' L' r → First n T W lead L x y h half q W' L' r'
first_other r' low a = record {
  lead' = a.lead';
  further = a.further;
  met = a.met;
  long = a.long;
  halves = a.halves;
  rest = a.rest;
  placed = a.placed;
  free = a.free;
  others = a.others;
  none = λ o. a.none (low o);
}

-- what lies north and west of quadrant q
pub quadrant_lines : {n : ℕ} {T W : List ℕ} {lead : ℕ → ℕ} {L : List ℕ} (x y h half : ℕ) → h ≡ 2 ^ half → (q : ℕ) → q < 4 → Halves n T W lead L x y h q
    → Lines n T W lead L (across_to x h q) (down_to y h q) half
unfolding western eastern northern southern
quadrant_lines {n} {T} {W} {lead} {L} x y h half is =
    by_quadrant (λ (q : ℕ). Halves n T W lead L x y h q → Lines n T W lead L (across_to x h q) (down_to y h q) half)
    (λ a. record {
      north = λ u b c. a.west_half u (omega (arith, b)) (omega (arith, c, is));
      west = λ v b c. a.north_half v (omega (arith, b)) (omega (arith, c, is));
    })
    (λ a. record {
      north = λ u b c. a.east_half u (omega (arith, b)) (omega (arith, c, is));
      west = λ v b c. a.north_half v (omega (arith, b)) (omega (arith, c, is));
    })
    (λ a. record {
      north = λ u b c. a.west_half u (omega (arith, b)) (omega (arith, c, is));
      west = λ v b c. a.south_half v (omega (arith, b)) (omega (arith, c, is));
    })
    (λ a. record {
      north = λ u b c. a.east_half u (omega (arith, b)) (omega (arith, c, is));
      west = λ v b c. a.south_half v (omega (arith, b)) (omega (arith, c, is));
    })

-- and once it has been gone through too
module _ {n : ℕ} {T W W' : List ℕ} {lead lead' : ℕ → ℕ} (L L' : List ℕ) (x y h half : ℕ) (is : h ≡ 2 ^ half) (m : Further n T W lead W' lead')
    (rx : x + 2 * h ≤ across) (ry : y + 2 * h ≤ across) where
  abbrev Passed : ℕ → Type 0
  Passed q = Halves n T W lead L x y h q → Left n T W' lead' L L' (across_to x h q) (down_to y h q) half → Halves n T W' lead' L' x y h (q + 1)

  kept : {e a b v w : ℕ} → w ≡ v → Line n T W lead e a b v → Line n T W' lead' e a b w
  kept ew l = rw ew (line_still m l)

  pub halves_more : (q : ℕ) → q < 4 → Passed q
  unfolding western eastern northern southern
  halves_more =
      by_quadrant Passed
      (λ a g. record {
        west_half = λ u b c. line_moved (y + 1 * h) u (y + 1 * h - 1) (omega (arith, is)) refl (omega (arith, is)) (g.north u (omega (arith, b)) (omega (arith, c, is)));
        east_half = λ u b c. kept (g.rest u (λ p o. omega (arith, b, o, is)) (λ p o. omega (arith, p, c, rx))) (a.east_half u b c);
        north_half = λ v b c. line_moved (x + 1 * h) (x + 1 * h - 1) v (omega (arith, is)) (omega (arith, is)) refl (g.west v (omega (arith, b)) (omega (arith, c, is)));
        south_half = λ v b c. kept (g.rest (across + v) (λ p o. omega (arith, o, is, rx)) (λ p o. omega (arith, o, b, is))) (a.south_half v b c);
      })
      (λ a g. record {
        west_half = λ u b c. kept (g.rest u (λ p o. omega (arith, p, c)) (λ p o. omega (arith, p, c, rx))) (a.west_half u b c);
        east_half = λ u b c. line_moved (y + 1 * h) u (y + 1 * h - 1) (omega (arith, is)) refl (omega (arith, is)) (g.north u (omega (arith, b)) (omega (arith, c, is)));
        north_half = λ v b c. line_moved (x + 2 * h) (x + 2 * h - 1) v (omega (arith, is)) (omega (arith, is)) refl (g.west v (omega (arith, b)) (omega (arith, c, is)));
        south_half = λ v b c. kept (g.rest (across + v) (λ p o. omega (arith, o, is, rx)) (λ p o. omega (arith, o, b, is))) (a.south_half v b c);
      })
      (λ a g. record {
        west_half = λ u b c. line_moved (y + 2 * h) u (y + 2 * h - 1) (omega (arith, is)) refl (omega (arith, is)) (g.north u (omega (arith, b)) (omega (arith, c, is)));
        east_half = λ u b c. kept (g.rest u (λ p o. omega (arith, b, o, is)) (λ p o. omega (arith, p, c, rx))) (a.east_half u b c);
        north_half = λ v b c. kept (g.rest (across + v) (λ p o. omega (arith, o, is, rx)) (λ p o. omega (arith, p, c))) (a.north_half v b c);
        south_half = λ v b c. line_moved (x + 1 * h) (x + 1 * h - 1) v (omega (arith, is)) (omega (arith, is)) refl (g.west v (omega (arith, b)) (omega (arith, c, is)));
      })
      (λ a g. record {
        west_half = λ u b c. kept (g.rest u (λ p o. omega (arith, p, c)) (λ p o. omega (arith, p, c, rx))) (a.west_half u b c);
        east_half = λ u b c. line_moved (y + 2 * h) u (y + 2 * h - 1) (omega (arith, is)) refl (omega (arith, is)) (g.north u (omega (arith, b)) (omega (arith, c, is)));
        north_half = λ v b c. kept (g.rest (across + v) (λ p o. omega (arith, o, is, rx)) (λ p o. omega (arith, p, c))) (a.north_half v b c);
        south_half = λ v b c. line_moved (x + 2 * h) (x + 2 * h - 1) v (omega (arith, is)) (omega (arith, is)) refl (g.west v (omega (arith, b)) (omega (arith, c, is)));
      })

-- what lies in a quadrant's columns or rows lies in the block's
module _ (x y h half : ℕ) (is : h ≡ 2 ^ half) where
  columns_within : (q : ℕ) → q < 4 → (i : ℕ) → across_to x h q ≤ i → i < across_to x h q + 2 ^ half → (x ≤ i → i < x + 2 * h → ⊥) → ⊥
  columns_within =
      by_quadrant (λ (q : ℕ). (i : ℕ) → across_to x h q ≤ i → i < across_to x h q + 2 ^ half → (x ≤ i → i < x + 2 * h → ⊥) → ⊥)
      (λ i a b c. c (omega (arith, a)) (omega (arith, b, is)))
      (λ i a b c. c (omega (arith, a)) (omega (arith, b, is)))
      (λ i a b c. c (omega (arith, a)) (omega (arith, b, is)))
      (λ i a b c. c (omega (arith, a)) (omega (arith, b, is)))

  rows_within : (q : ℕ) → q < 4 → (i : ℕ) → across + down_to y h q ≤ i → i < across + down_to y h q + 2 ^ half
      → (across + y ≤ i → i < across + y + 2 * h → ⊥) → ⊥
  rows_within =
      by_quadrant
      (λ (q : ℕ). (i : ℕ) → across + down_to y h q ≤ i → i < across + down_to y h q + 2 ^ half → (across + y ≤ i → i < across + y + 2 * h → ⊥) → ⊥)
      (λ i a b c. c (omega (arith, a)) (omega (arith, b, is)))
      (λ i a b c. c (omega (arith, a)) (omega (arith, b, is)))
      (λ i a b c. c (omega (arith, a)) (omega (arith, b, is)))
      (λ i a b c. c (omega (arith, a)) (omega (arith, b, is)))

nonzero_neither : (a b : ℕ) → first_nonzero a b ≡ 0 → (a ≡ 0) × (b ≡ 0)
nonzero_neither a b e = same_or_not a 0 (λ z. (z, sym (nonzero_second a b z) ∙ e)) (λ z. absurd (z (sym (nonzero_first a b z) ∙ e)))

module _ {T W L : List ℕ} {m x y l : ℕ} (z : Coming T W L m x y l) (f : is_fork T m ≡ true) (h half : ℕ) (is : h ≡ 2 ^ half) (down : half ≡ l - 1) where
  abbrev n : ℕ
  n = z.n

  abbrev lead : ℕ → ℕ
  lead = z.lead

  two : 2 ^ l ≡ 2 * h
  two = twice z.at f ∙ ap (λ (k : ℕ). 2 * 2 ^ k) (sym down) ∙ ap (λ (k : ℕ). 2 * k) (sym is)

  -- none yet
  pub first_none : First n T W lead L x y h half 0 W L 0
  unfolding western eastern northern southern
  first_none = record {
    lead' = lead;
    further = further_none z.sets;
    met = z.met;
    long = refl;
    halves = record {
      west_half = λ u a b. line_moved (y + 0 * h) u (y + 0 * h - 1) (omega arith) refl (omega arith) (z.lines.north u a (omega (arith, b, two)));
      east_half = λ u a b. line_moved (y + 0 * h) u (y + 0 * h - 1) (omega arith) refl (omega arith) (z.lines.north u (omega (arith, a)) (omega (arith, b, two)));
      north_half = λ v a b. line_moved (x + 0 * h) (x + 0 * h - 1) v (omega arith) (omega arith) refl (z.lines.west v a (omega (arith, b, two)));
      south_half = λ v a b. line_moved (x + 0 * h) (x + 0 * h - 1) v (omega arith) (omega arith) refl (z.lines.west v (omega (arith, a)) (omega (arith, b, two)));
    };
    rest = λ i a b. refl;
    placed = λ k lt. absurd (omega (arith, lt));
    free = λ k ge k4 i w b. z.free i w (quadrant_within n T i x y h half is l two k k4 b);
    others = λ k i e w nb o. o;
    none = λ o k lt. absurd (omega (arith, lt));
  }

  -- the block lies on the sheet
  pub room : (x + 2 * h ≤ across) × (y + 2 * h ≤ across)
  room =
      let w : side_of n T m ≡ 2 * h = ap (λ (k : ℕ). 2 ^ k) (sym (level_is z.at)) ∙ two in
      let s : 0 < h = rw is (pow_pos half) in
      let last : Has n T m (x + 2 * h - 1) (y + 2 * h - 1) = record {
        node = z.at.node;
        west = omega (arith, z.left, s);
        east = omega (arith, z.left, s, w);
        north = omega (arith, z.top, s);
        south = omega (arith, z.top, s, w);
      } in
      let k = has_across z.sets.accepted last in
      (omega (arith, k.0, s), omega (arith, k.1, s))

  module _ (q : ℕ) (q4 : q < 4) (W' L' : List ℕ) (r : ℕ) (a : First n T W lead L x y h half q W' L' r) where
    -- the walk comes to son c
    pub first_coming : (c : ℕ) → c ≡ son T m q → Coming T W' L' c (across_to x h q) (down_to y h q) half
    first_coming c ec =
        let b = son_begins z.at f q q4 in
        let e : 2 ^ (l - 1) ≡ h = ap (λ (k : ℕ). 2 ^ k) (sym down) ∙ sym is in
        record {
          n = n;
          lead = a.lead';
          sets = a.further.sets;
          long = a.long ∙ z.long;
          at = rw (ec, down) (son_at z.at f q q4);
          left = rw ec (b.0 ∙ rw (e, z.left));
          top = rw ec (b.1 ∙ rw (e, z.top));
          met = a.met;
          lines = quadrant_lines x y h half is q q4 a.halves;
          free = λ i w s. a.free q (omega arith) q4 i w s;
        }

    -- and has gone through it
    pub first_more : (W'' L'' : List ℕ) (s : ℕ) → Gone n T W' a.lead' L' (across_to x h q) (down_to y h q) half W'' L'' s
        → First n T W lead L x y h half (q + 1) W'' L'' (first_nonzero r s)
    first_more W'' L'' s g = record {
      lead' = g.lead';
      further = further_on a.further g.further;
      met = g.met;
      long = g.lines.long ∙ a.long;
      halves = halves_more L' L'' x y h half is g.further room.0 room.1 q q4 a.halves g.lines;
      rest = λ i c d.
          g.lines.rest i (λ p o. columns_within x y h half is q q4 i p o c) (λ p o. rows_within x y h half is q q4 i p o d) ∙ a.rest i c d;
      placed = λ k lt i w b.
          last_or_before k q lt (λ e. g.placed i w (rw e at b)) (λ before. g.further.placed i (a.placed k before i w b));
      free = λ k ge k4 i w b.
          g.others i w (quadrants_apart n T i x y h half is k k4 q q4 (λ e. omega (arith, e, ge)) b) (a.free k (omega (arith, ge)) k4 i w b);
      others = λ k i e w nb o. g.others i w (λ b. nb (quadrant_within n T i x y h half is k e q q4 b)) (a.others k i e w nb o);
      none = λ o k lt i w b.
          let both = nonzero_neither r s o in
          last_or_before k q lt
          (λ e. g.none both.1 i w (rw e at b))
          (λ before. g.further.linked i (a.placed k before i w b) (a.none both.0 k before i w b));
    }

  -- all four
  module _ (W' L' : List ℕ) (r : ℕ) (a : First n T W lead L x y h half 4 W' L' r) where
    -- where nothing in it leads
    bare : r ≡ 0 → (i : ℕ) → Water T i → Begins n T i x y l → Placed T W' i × (word_of W' i < leading)
    bare o i w b =
        let k = some_quadrant n T i x y h half is l two b in
        (a.placed k.0 k.1 i w k.2, a.none o k.0 k.1 i w k.2)

    -- the words then, those of the black leaves as they are
    module _ (W'' : List ℕ) (same_word : (i : ℕ) → Water T i → word_of W'' i ≡ word_of W' i) where
      forth : (i : ℕ) → Placed T W' i → Placed T W'' i
      forth i p = record { water = p.water; some = λ e. p.some (sym (same_word i p.water) ∙ e) }

      back : (i : ℕ) → Placed T W'' i → Placed T W' i
      back i p = record { water = p.water; some = λ e. p.some (same_word i p.water ∙ e) }

      all_gone : Further n T W' a.lead' W'' a.lead' → Gone n T W lead L x y l W'' L' r
      unfolding western eastern northern southern
      all_gone last = record {
        lead' = a.lead';
        further = further_on a.further last;
        met = λ i p. met_still last (back i p) (a.met i (back i p));
        lines = record {
          long = a.long;
          north = λ u b d.
              line_moved (y + 2 ^ l) u (y + 2 ^ l - 1) (omega (arith, two)) refl (omega (arith, two))
              (line_still last
              (⊎_elim
              (λ (k : u < x + h). a.halves.west_half u b k)
              (λ (k : x + h ≤ u). a.halves.east_half u k (omega (arith, d, two)))
              (lt_or_ge u (x + h))));
          west = λ u b d.
              line_moved (x + 2 ^ l) (x + 2 ^ l - 1) u (omega (arith, two)) (omega (arith, two)) refl
              (line_still last
              (⊎_elim
              (λ (k : u < y + h). a.halves.north_half u b k)
              (λ (k : y + h ≤ u). a.halves.south_half u k (omega (arith, d, two)))
              (lt_or_ge u (y + h))));
          rest = λ i b d. a.rest i (λ p o. b p (omega (arith, o, two))) (λ p o. d p (omega (arith, o, two)));
        };
        placed = λ i w b. let k = some_quadrant n T i x y h half is l two b in forth i (a.placed k.0 k.1 i w k.2);
        others = λ i w nb o. same_word i w ∙ a.others l i two w nb o;
        none = λ o i w b. rw (same_word i w) (bare o i w b).1;
      }

    -- the fork's own word stays
    pub still_gone : Gone n T W lead L x y l W' L' r
    still_gone = all_gone W' (λ i w. refl) (further_none a.further.sets)

    -- it is marked where nothing in it leads
    module _ (v : ℕ) (ev : v ≡ mark_of r) where
      c : Changed W' m v (set W' m v)
      c = changed W' m v (omega (arith, z.at.node, a.further.sets.each))

      not_water : (i : ℕ) → Water T i → i ≡ m → ⊥
      not_water i w e = omega (arith, w.wet, ap (node_type T) e, eqb-true (node_type T m) fork_type f)

      same : (i : ℕ) → Water T i → word_of (set W' m v) i ≡ word_of W' i
      same i w = c.rest i (not_water i w)

      mark : Dark n T W' (set W' m v) m
      unfolding mark_of
      mark =
          same_or_not r 0
          (λ o.
          let e : v ≡ leading = rw (eq-eqb r 0 o) at ev in
          marked f (c.here ∙ e)
          (λ i w b.
          let g : Begins n T i x y l = rw (z.left, z.top, ← level_is z.at) at b in
          let k = bare o i w g in
          (forth (set W' m v) same i k.0, rw (same i w) k.1)))
          (λ o. let e : v ≡ 0 = rw (ne_eqb r 0 o) at ev in none (c.here ∙ e))

      pub fork_gone : Gone n T W lead L x y l (set W' m v) L' r
      fork_gone =
          all_gone (set W' m v) same
          (further_same a.further.sets c.long same
          (λ i d. same_or_not i m (λ e. rw e mark) (λ ne. as_before (c.rest i ne))))

-- in the code's own values
abbrev pub Firsts : List ℕ → List ℕ → List ℕ → ℕ → ℕ → ℕ → ℕ → ℕ → ℕ → ℕ → List ℕ → List ℕ → ℕ → Type 0
Firsts T W L p x y l h half q W' L' r = (z : Coming T W L p x y l) → First z.n T W z.lead L x y h half q W' L' r

module _ (T W L : List ℕ) (p x y l : ℕ) (f : is_fork T p ≡ true) (h half : ℕ) (is : h ≡ 2 ^ half) (down : half ≡ l - 1) where
  abbrev Those : ℕ → List ℕ → List ℕ → ℕ → Type 0
  Those q W' L' r = Firsts T W L p x y l h half q W' L' r

  pub firsts_none : Those 0 W L 0
  firsts_none z = first_none z f h half is down

  module _ (q : ℕ) (q4 : q < 4) (W' L' : List ℕ) (r : ℕ) (a : Those q W' L' r) (c sx sy : ℕ) (ec : c ≡ son T p q) (ex : sx ≡ x + q % 2 * h) (ey : sy ≡ y + q / 2 * h) where
    pub son_coming : Coming T W L p x y l → Coming T W' L' c sx sy half
    son_coming z = rw (ex, ey) (first_coming z f h half is down q q4 W' L' r (a z) c ec)

    pub son_pixels : half ≡ 1 → Coming T W L p x y l → Coming T W' L' c sx sy 1
    son_pixels e z = rw e at (son_coming z)

    module _ (W'' L'' : List ℕ) (s : ℕ) where
      pub firsts_fork : Goes T W' L' c sx sy half W'' L'' s → (t : ℕ) → t ≡ first_nonzero r s → Those (q + 1) W'' L'' t
      unfolding first_coming
      firsts_fork g t et z =
          let e : Goes T W' L' c (across_to x h q) (down_to y h q) half W'' L'' s = rw (ex, ey) at g in
          rw et (first_more z f h half is down q q4 W' L' r (a z) W'' L'' s (e (first_coming z f h half is down q q4 W' L' r (a z) c ec)))

      pub firsts_pixels : half ≡ 1 → Goes T W' L' c sx sy 1 W'' L'' s → (t : ℕ) → t ≡ first_nonzero r s → Those (q + 1) W'' L'' t
      firsts_pixels e g = firsts_fork (rw e g)

    -- a leaf
    module _ (kind side : ℕ) (ek : kind ≡ node_type T c) (nf : kind ≡ fork_type → ⊥) (power : side ≡ 2 ^ half) where
      pub son_leaf : Coming T W L p x y l → ToLeaf W' L' kind c side sx sy
      son_leaf z = record { T = T; l = half; coming = son_coming z; leaf = ne_eqb (node_type T c) fork_type (λ e. nf (ek ∙ e)); is = ek; power = power }

      pub firsts_leaf : (W'' L'' : List ℕ) (s : ℕ) → PastLeaf W' L' kind c side sx sy W'' L'' s → (t : ℕ) → t ≡ first_nonzero r s
          → Those (q + 1) W'' L'' t
      firsts_leaf W'' L'' s g =
          firsts_fork W'' L'' s
          (λ k. g (record { T = T; l = half; coming = k; leaf = ne_eqb (node_type T c) fork_type (λ e. nf (ek ∙ e)); is = ek; power = power }))

  pub firsts_all : (W' L' : List ℕ) (r v : ℕ) → Those 4 W' L' r → v ≡ mark_of r → Goes T W L p x y l (set W' p v) L' r
  firsts_all W' L' r v a ev z = fork_gone z f h half is down W' L' r (a z) v ev

  pub firsts_still : (W' L' : List ℕ) (r : ℕ) → Those 4 W' L' r → Goes T W L p x y l W' L' r
  firsts_still W' L' r a z = still_gone z f h half is down W' L' r (a z)

  pub all_within : (W' L' : List ℕ) (r : ℕ) → Those 4 W' L' r → Coming T W L p x y l → p < length W'
  all_within W' L' r a z = omega (arith, z.at.node, (a z).further.sets.each)

-- a son is a node, and what lies beside the first pixel is on the lines
pub node_of_son : {T W L : List ℕ} {p x y l : ℕ} → Coming T W L p x y l → is_fork T p ≡ true → (q : ℕ) → q < 4 → (c : ℕ) → c ≡ son T p q → (c < nodes T) × (5 < 6)
node_of_son z f q q4 c e = (rw e (son_at z.at f q q4).node, omega arith)

pub corner_bounds : {T W L : List ℕ} {p x y l : ℕ} → Coming T W L p x y l → (x < across) × (y < across)
corner_bounds z = rw (z.left, z.top) at (has_across z.sets.accepted (own_pixel _ z.at.node))

-- four pixels lie on the sheet
pub pixels_room : {T W L : List ℕ} {p x y : ℕ} → Coming T W L p x y 1 → is_fork T p ≡ true → (x + 2 ≤ across) × (y + 2 ≤ across)
pixels_room z f = let k = room z f 1 0 refl refl in (omega (arith, k.0), omega (arith, k.1))

-- the quadrants' offsets are small
pub parts_few : (q : ℕ) → q < 4 → (side : ℕ) → side ≤ across → (q % 2 * side ≤ across) × (q / 2 * side ≤ across)
parts_few =
    by_quadrant (λ (q : ℕ). (side : ℕ) → side ≤ across → (q % 2 * side ≤ across) × (q / 2 * side ≤ across))
    (λ s h. (omega arith, omega arith))
    (λ s h. (omega arith, omega arith))
    (λ s h. (omega arith, omega arith))
    (λ s h. (omega arith, omega arith))

pub half_few : {T W L : List ℕ} {p x y l half : ℕ} → Coming T W L p x y l → is_fork T p ≡ true → half ≡ l - 1 → (0 < l) × (half < top_level) × (2 ^ half ≤ across)
half_few {l = l} {half} z f e =
    let a = fork_above z.at f in
    let t = level_top z.at in
    (a, omega (arith, a, t, e), pow-le-pow_right {n = 2} (omega arith) {i = half} {j = top_level} (omega (arith, a, t, e)))

pub offsets_few : {T W L : List ℕ} {p x y l half side : ℕ} → Coming T W L p x y l → is_fork T p ≡ true → half ≡ l - 1 → side ≡ 2 ^ half → (q : ℕ) → q < 4
    → (q % 2 * side ≤ across) × (q / 2 * side ≤ across) × (x < across) × (y < across)
offsets_few {side = side} z f e p q q4 =
    let k = parts_few q q4 side (rw p (half_few z f e).2) in
    let b = corner_bounds z in
    (k.0, k.1, b.0, b.1)

pub four_of_lem : {T W L : List ℕ} {p x y l h half q : ℕ} {W' L' : List ℕ} {r : ℕ} → q ≤ 4 → 4 ≤ q → Firsts T W L p x y l h half q W' L' r → Firsts T W L p x y l h half 4 W' L' r
four_of_lem {q = q} a b h = let e : q ≡ 4 = omega arith in rw e at h

pub two_power : (half : ℕ) → half ≡ 1 → 2 ≡ 2 ^ half
two_power half e = rw e refl
