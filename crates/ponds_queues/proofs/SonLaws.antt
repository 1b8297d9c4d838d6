-- The sons of a fork in turn, the last first: in its own rows the block of each lies west of those of the sons gone
-- through before it, so what a son asks holds once they are; and a block that begins in the fork's begins in one son's.
use mathlib.Core.Bool.{Bool, true, false}
use mathlib.Core.List.{List}
use mathlib.Core.Logic.{◌⊎◌, inl, inr, ⊎_elim}
use mathlib.Core.Path.{◌≡◌, refl}
use Prim.Native.Nat.{ℕ, ◌+◌, ◌-◌, ◌*◌, ◌/◌, ◌%◌, ◌^◌, ◌≤◌, ◌<◌}
use native.Mathlib.Nat.{pow-le-pow_right}
use native.Mathlib.Omega.{arith}
use lib.ListN.{length, set, length-set}
use lib.Seq.{get_or-set_same, set-set}
use lib.Pow.{pow_pos}
use Rattle.base.proofs.BoolLaws.{by_bool, lt_or_ge}
use Rattle.base.proofs.PowLaws.{pow_less}
use Rattle.quad.specs.Numbers.{top_level}
use Rattle.quad.proofs.TreeLaws.{by_quadrant}
use Rattle.table.specs.Table.{son, is_fork}
use Rattle.table.specs.Rules.{AtLevel}
use Rattle.table.specs.Nodes.{left_of, top_of}
use Rattle.table.proofs.AcceptedLaws.{fork_above, level_top, son_at}
use Rattle.ponds.specs.Words.{word_of}
use Rattle.ponds_sets.specs.Sets.{Begins}
use Rattle.ponds_queues.specs.Queues.{Leads, Queued, East, Passed, Reach, Through, Room, Stood, row_of}
use Rattle.ponds_queues.proofs.WordLaws.{same_or}
use Rattle.ponds_queues.proofs.PlaceLaws.{apart, top_top, son_left, son_top}
use Rattle.ponds_queues.proofs.QueueLaws.{stands, leaf_row, leaf_room, leaf_passed, marked_passed}

-- node i begins in the block of one of the sons from q on
pub record Among (n : ℕ) (T : List ℕ) (p l q i : ℕ) : Type 0 where
  pub which : ℕ
  pub from : q ≤ which
  pub few : which < 4
  pub begins : Begins n T i (left_of n T (son T p which)) (top_of n T (son T p which)) (l - 1)

-- the sons of fork p from q on are gone through
pub record Part (n : ℕ) (T F : List ℕ) (D : ℕ → Bool) (p l q : ℕ) (W R : List ℕ) : Type 0 where
  pub now : ℕ → Bool
  pub queued : Queued n T F now W R
  pub kept : (i : ℕ) → D i ≡ true → now i ≡ true
  pub only : (i : ℕ) → now i ≡ true → (D i ≡ true) ⊎ Among n T p l q i
  pub all : (i : ℕ) → Leads T F i → Among n T p l q i → now i ≡ true

-- the same, whatever the words were before
abbrev pub Sons : List ℕ → List ℕ → List ℕ → ℕ → ℕ → ℕ → ℕ → List ℕ → List ℕ → Type 0
Sons T W₀ R₀ p l y q W R = (n : ℕ) (F : List ℕ) (D : ℕ → Bool) → Reach n F D T W₀ R₀ p l y → Part n T F D p l q W R

module _ {n : ℕ} {T F : List ℕ} {D : ℕ → Bool} {W R : List ℕ} {p l y : ℕ} (h : Reach n F D T W R p l y) where
  pub part_none : Part n T F D p l 4 W R
  part_none = record {
    now = D;
    queued = h.queued;
    kept = λ i d. d;
    only = λ i d. inl d;
    all = λ i li a. absurd (omega (arith, a.from, a.few));
  }

  pub reach_row : y < 2 ^ top_level
  reach_row = omega (arith, h.top, top_top n T h.place.accepted p h.place.node)

  -- the row that a son begins in, as the code shifts its half
  pub son_row : {q k : ℕ} → q < 4 → k ≡ son T p q → y + q / 2 * 2 ^ (l - 1) % 2 ^ 64 ≡ top_of n T k
  son_row {q} {k} q4 e =
      let i = son_at h.place h.fork q q4 in
      rw e (omega (arith, h.top, son_top h.place h.fork q q4, top_top n T h.place.accepted (son T p q) i.node))

  -- a son's column and its row fit, whichever is asked for
  pub offsets_fit : (q : ℕ) → q < 4 → (y + q % 2 * 2 ^ (l - 1) % 2 ^ 64 < 2 ^ 64) × (y + q / 2 * 2 ^ (l - 1) % 2 ^ 64 < 2 ^ 64)
  offsets_fit =
      let few = pow-le-pow_right {n = 2} (omega arith) {i = l - 1} {j = top_level} (omega (arith, level_top h.place)) in
      by_quadrant (λ (q : ℕ). (y + q % 2 * 2 ^ (l - 1) % 2 ^ 64 < 2 ^ 64) × (y + q / 2 * 2 ^ (l - 1) % 2 ^ 64 < 2 ^ 64))
      (omega (arith, reach_row, few), omega (arith, reach_row, few))
      (omega (arith, reach_row, few), omega (arith, reach_row, few))
      (omega (arith, reach_row, few), omega (arith, reach_row, few))
      (omega (arith, reach_row, few), omega (arith, reach_row, few))

  half : 2 ^ l ≡ 2 * 2 ^ (l - 1)
  half = pow_less 2 l (fork_above h.place h.fork)

  module _ {left q : ℕ} {W₁ R₁ : List ℕ} (s : Part n T F D p l left W₁ R₁) (el : left ≡ q + 1) where
    -- what the next son asks
    pub son_east : q < 4 → East n T s.now (left_of n T (son T p q)) (top_of n T (son T p q)) (l - 1)
    son_east q4 i d north south =
        let size = pow_pos (l - 1) in
        let west = son_left h.place h.fork q q4 in
        let top = son_top h.place h.fork q q4 in
        ⊎_elim
        (λ (old : D i ≡ true).
        omega (arith, west, half, apart (q % 2) 2 (2 ^ (l - 1)) size (omega arith), h.east i old (omega (arith, top)) (omega (arith, top, half, apart (q / 2) 2 (2 ^ (l - 1)) size (omega arith)))))
        (λ (a : Among n T p l left i).
        let k : ℕ = a.which in
        let gt : q < k = omega (arith, a.from, el) in
        let b = a.begins in
        ⊎_elim
        (λ (down : q / 2 < k / 2).
        absurd (omega (arith, top, son_top h.place h.fork k a.few, b.north, apart (q / 2) (k / 2) (2 ^ (l - 1)) size down)))
        (λ (ge : k / 2 ≤ q / 2).
        omega (arith, west, son_left h.place h.fork k a.few, b.west, apart (q % 2) (k % 2) (2 ^ (l - 1)) size (omega arith)))
        (lt_or_ge (q / 2) (k / 2)))
        (s.only i d)

    -- and the next son gone through
    pub part_more : q < 4 → {W₂ R₂ : List ℕ} → Passed n T F s.now (left_of n T (son T p q)) (top_of n T (son T p q)) (l - 1) W₂ R₂
        → Part n T F D p l q W₂ R₂
    part_more q4 t =
        let on : (i : ℕ) → Among n T p l left i → Among n T p l q i =
        λ i a. record { which = a.which; from = omega (arith, a.from, el); few = a.few; begins = a.begins } in
        record {
          now = t.now;
          queued = t.queued;
          kept = λ i d. t.kept i (s.kept i d);
          only = λ i d.
              ⊎_elim
              (λ (old : s.now i ≡ true). ⊎_elim (λ (o : D i ≡ true). inl o) (λ (a : Among n T p l left i). inr (on i a)) (s.only i old))
              (λ (b : Begins n T i (left_of n T (son T p q)) (top_of n T (son T p q)) (l - 1)).
              inr (record { which = q; from = omega arith; few = q4; begins = b }))
              (t.only i d);
          all = λ i li a.
              let k : ℕ = a.which in
              ⊎_elim
              (λ (e : k ≡ q). t.all i li (rw e at a.begins))
              (λ (ne : k ≡ q → ⊥). t.kept i (s.all i li (record { which = k; from = omega (arith, a.from, ne, el); few = a.few; begins = a.begins })))
              (same_or k q);
        }

    module _ (q4 : q < 4) {k : ℕ} (e : k ≡ son T p q) where
      place : AtLevel n T k (l - 1)
      place = rw e (son_at h.place h.fork q q4)

      pub node_of_son : k < length W₁
      node_of_son = omega (arith, s.queued.size, place.node)

      -- where the next son is a leaf
      module _ (f : is_fork T k ≡ false) {v : ℕ} (t : v ≡ top_of n T k) where
        pub turn_row : v < 2 ^ top_level
        turn_row = leaf_row s.queued h.ready place f t

        pub turn_room : Room W₁ k
        turn_room = leaf_room s.queued h.ready place f t

        pub turn_leaf : {W₂ : List ℕ} {r : ℕ} → Stood W₁ k (row_of R₁ v) W₂ r → Part n T F D p l q W₂ (set R₁ v r)
        turn_leaf a =
            let east : East n T s.now (left_of n T k) (top_of n T k) (l - 1) = rw e (son_east q4) in
            part_more q4 (rw e at (leaf_passed s.queued h.ready place f t east (stands a)))

      -- where it is a fork
      module _ (f : is_fork T k ≡ true) where
        pub son_reach : {m v : ℕ} → l - 1 ≡ m → v ≡ top_of n T k → Reach n F s.now T W₁ R₁ k m v
        son_reach {m} {v} d t =
            let at : Reach n F s.now T W₁ R₁ k (l - 1) v =
            record {
              ready = h.ready;
              place = place;
              fork = f;
              top = t;
              queued = s.queued;
              east = rw e (son_east q4);
            } in
            rw d at at

        pub turn_fork : {m v : ℕ} → l - 1 ≡ m → v ≡ top_of n T k → {W₂ R₂ : List ℕ} → Through T W₁ R₁ k m v W₂ R₂ → Part n T F D p l q W₂ R₂
        turn_fork d t g = part_more q4 (rw (e, ← d) at (g n F s.now (son_reach d t)))

        pub turn_marked : (word_of W₁ k ≡ 0 → ⊥) → Part n T F D p l q W₁ R₁
        turn_marked some = part_more q4 (rw e at (marked_passed s.queued h.ready place f some))

  -- a block that begins in the fork's, and in one of its sons'
  in_son : (i k : ℕ) → k < 4 → left_of n T p + k % 2 * 2 ^ (l - 1) ≤ left_of n T i → left_of n T i < left_of n T p + k % 2 * 2 ^ (l - 1) + 2 ^ (l - 1)
      → top_of n T p + k / 2 * 2 ^ (l - 1) ≤ top_of n T i → top_of n T i < top_of n T p + k / 2 * 2 ^ (l - 1) + 2 ^ (l - 1) → Among n T p l 0 i
  in_son i k k4 west east north south =
      let left = son_left h.place h.fork k k4 in
      let top = son_top h.place h.fork k k4 in
      record {
        which = k;
        from = omega arith;
        few = k4;
        begins = record { west = omega (arith, left); east = omega (arith, left); north = omega (arith, top); south = omega (arith, top) };
      }

  among : (i : ℕ) → Begins n T i (left_of n T p) (top_of n T p) l → Among n T p l 0 i
  among i b =
      let e = half in
      ⊎_elim
      (λ (north : top_of n T i < top_of n T p + 2 ^ (l - 1)).
      ⊎_elim
      (λ (west : left_of n T i < left_of n T p + 2 ^ (l - 1)).
      in_son i 0 (omega arith) (omega (arith, b.west)) (omega arith) (omega (arith, b.north)) (omega arith))
      (λ (east : left_of n T p + 2 ^ (l - 1) ≤ left_of n T i).
      in_son i 1 (omega arith) (omega arith) (omega (arith, b.east)) (omega (arith, b.north)) (omega arith))
      (lt_or_ge (left_of n T i) (left_of n T p + 2 ^ (l - 1))))
      (λ (south : top_of n T p + 2 ^ (l - 1) ≤ top_of n T i).
      ⊎_elim
      (λ (west : left_of n T i < left_of n T p + 2 ^ (l - 1)).
      in_son i 2 (omega arith) (omega (arith, b.west)) (omega arith) (omega arith) (omega (arith, b.south)))
      (λ (east : left_of n T p + 2 ^ (l - 1) ≤ left_of n T i).
      in_son i 3 (omega arith) (omega arith) (omega (arith, b.east)) (omega arith) (omega (arith, b.south)))
      (lt_or_ge (left_of n T i) (left_of n T p + 2 ^ (l - 1))))
      (lt_or_ge (top_of n T i) (top_of n T p + 2 ^ (l - 1)))

  within : (i : ℕ) → Among n T p l 0 i → Begins n T i (left_of n T p) (top_of n T p) l
  within i a =
      let k : ℕ = a.which in
      let k4 : k < 4 = a.few in
      let b = a.begins in
      let e = half in
      let size = pow_pos (l - 1) in
      let left = son_left h.place h.fork k k4 in
      let top = son_top h.place h.fork k k4 in
      record {
        west = omega (arith, b.west, left);
        east = omega (arith, b.east, left, apart (k % 2) 2 (2 ^ (l - 1)) size (omega arith));
        north = omega (arith, b.north, top);
        south = omega (arith, b.south, top, apart (k / 2) 2 (2 ^ (l - 1)) size (omega arith));
      }

  -- all four
  pub part_all : {W' R' : List ℕ} → Part n T F D p l 0 W' R' → Passed n T F D (left_of n T p) (top_of n T p) l W' R'
  part_all s = record {
    now = s.now;
    queued = s.queued;
    kept = s.kept;
    only = λ i d. ⊎_elim (λ (o : D i ≡ true). inl o) (λ (a : Among n T p l 0 i). inr (within i a)) (s.only i d);
    all = λ i li b. s.all i li (among i b);
  }

  pub part_end : {left : ℕ} {W' R' : List ℕ} → left ≤ 0 → Part n T F D p l left W' R' → Passed n T F D (left_of n T p) (top_of n T p) l W' R'
  part_end {left} {W'} {R'} le s =
      let e : left ≡ 0 = omega arith in
      part_all (rw e at s)

-- the son before those gone through
pub fewer : {left : ℕ} → left ≤ 4 → 0 < left → left - 1 < 4
fewer a b = omega (arith, a, b)

pub one_less : {left : ℕ} → 0 < left → left ≡ left - 1 + 1
one_less a = omega (arith, a)

-- the pixels of a fork of level 1
module _ {n : ℕ} {T F : List ℕ} {D : ℕ → Bool} {W R : List ℕ} {p y : ℕ} (h : Reach n F D T W R p 1 y) {W₁ R₁ : List ℕ} (v q : ℕ) (q4 : q < 4)
    (s : Part n T F D p 1 (q + 1) W₁ R₁) {k : ℕ} (e : k ≡ son T p q) (t : v ≡ y + q / 2) where
  pixel_leaf : is_fork T k ≡ false
  pixel_leaf =
      ⊎_elim
      (λ (f : is_fork T k ≡ true). absurd (omega (arith, fork_above (son_at h.place h.fork q q4) (rw e at f))))
      (λ (f : is_fork T k ≡ false). f)
      (by_bool (is_fork T k))

  pixel_top : v ≡ top_of n T k
  pixel_top = rw e (omega (arith, t, h.top, son_top h.place h.fork q q4))

  pub pixel_room : Room W₁ k
  pixel_room = turn_room h s refl q4 e pixel_leaf pixel_top

  pixel_stands : {W₂ : List ℕ} {r : ℕ} → Stood W₁ k (row_of R₁ v) W₂ r → Part n T F D p 1 q W₂ (set R₁ v r)
  pixel_stands a = turn_leaf h s refl q4 e pixel_leaf pixel_top a

pub pixel_more : {n : ℕ} {T F : List ℕ} {D : ℕ → Bool} {W R : List ℕ} {p y : ℕ} → Reach n F D T W R p 1 y → {W₁ R₁ : List ℕ} (v q : ℕ) → q < 4
    → Part n T F D p 1 (q + 1) W₁ R₁ → {k : ℕ} → k ≡ son T p q → {W₂ : List ℕ} {r : ℕ} → Stood W₁ k (row_of R₁ v) W₂ r → v ≡ y + q / 2
    → Part n T F D p 1 q W₂ (set R₁ v r)
pixel_more h v q q4 s e a t = pixel_stands h v q q4 s e t a

pub south_row : {n : ℕ} {T F : List ℕ} {D : ℕ → Bool} {W R : List ℕ} {p y : ℕ} → Reach n F D T W R p 1 y → y + 1 < 2 ^ top_level
south_row {n} {T} {p = p} h =
    let two : 2 < 4 = omega arith in
    omega (arith, h.top, son_top h.place h.fork 2 two, top_top n T h.place.accepted (son T p 2) (son_at h.place h.fork 2 two).node)

-- the second pixel of a row goes before what the first has left at its head
module _ {n : ℕ} {T F : List ℕ} {D : ℕ → Bool} {W R : List ℕ} {p y : ℕ} (h : Reach n F D T W R p 1 y) {W₁ : List ℕ} (R₁ : List ℕ) (v a : ℕ) (q : ℕ)
    (q4 : q < 4) (s : Part n T F D p 1 (q + 1) W₁ (set R₁ v a)) {k : ℕ} (e : k ≡ son T p q) (t : v ≡ y + q / 2) (lt : v < 2 ^ top_level) where
  head_is : row_of (set R₁ v a) v ≡ a
  head_is = get_or-set_same R₁ v a 0 (omega (arith, lt, s.queued.tall, length-set R₁ v a))

  pub second_more : {W₂ : List ℕ} {b : ℕ} → Stood W₁ k a W₂ b → Part n T F D p 1 q W₂ (set R₁ v b)
  second_more {W₂} {b} d =
      let there : Stood W₁ k (row_of (set R₁ v a) v) W₂ b = rw head_is d in
      rw (set-set R₁ v a b) at (pixel_more h v q q4 s e there t)
