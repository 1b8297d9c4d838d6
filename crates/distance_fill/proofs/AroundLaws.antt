-- The eight directions turn by turn, and the word of a node, as the code goes through them.
use mathlib.Core.Bool.{Bool, true, false, false≢true}
use mathlib.Core.List.{List, [], ◌∷◌}
use mathlib.Core.Logic.{⊎_elim}
use mathlib.Core.Path.{◌≡◌, refl, ap, sym, ◌∙◌}
use Prim.Native.Nat.{ℕ, suc, ◌+◌, ◌-◌, ◌*◌, ◌^◌, ◌≤◌, ◌<◌, min}
use native.Mathlib.Nat.{min-eq_left, min-eq_right}
use native.Mathlib.Omega.{arith}
use lib.Dec.{eqb}
use lib.ListN.{get_or, length}
use Rattle.std.specs.List.{list_any}
use Rattle.std.proofs.Common.{All}
use Rattle.std.proofs.lemmas.List.Elements.{All-from_get_or}
use lib.Pow.{pow_mono}
use borrow.Author.Tests.{eq-eqb, ne_eqb, eqb-true}
use Rattle.std.proofs.Common.{Option, Some, None}
use Rattle.base.specs.Tab.{least}
use Rattle.base.proofs.BoolLaws.{by_bool}
use Rattle.base.proofs.LeastLaws.{least_next, least_less, least_le, least_same}
use Rattle.quad.specs.Numbers.{white, none, top_level, fork_type}
use Rattle.quad.specs.Direction.{east_step, south_step}
use Rattle.table.specs.Table.{nodes, node_type, is_fork}
use Rattle.table.specs.Rules.{Accepted}
use Rattle.table.specs.Nodes.{pixel, level_of, centre_across, centre_down}
use Rattle.table.proofs.AcceptedLaws.{depth_le, level_top, level_is}
use Rattle.neighbour.specs.declared.Found.{Found}
use Rattle.neighbour.specs.Neighbour.{neighbour_found}
use Rattle.neighbour.specs.Search.{stay}
use Rattle.neighbour_around.specs.Surround.{node_or, Surrounds}
use Rattle.neighbour.proofs.FoundLaws.{FoundAt, found_facts}
use Rattle.distance.specs.Distance.{plain_outside, nearest, distance_at}
use Rattle.distance_seek.specs.Search.{offset_from}
use Rattle.distance_seek.specs.Around.{offset_found, offset_beside, offset_around, least_around, Beside, AllBeside, SomeWhite, Inner}
use Rattle.distance_fill.specs.Handed.{Land}
use Rattle.distance_seek.proofs.SearchLaws.{offset_leaf}
use Rattle.distance_fill.proofs.LeafLaws.{side_small, father_small, leaf_nearest, root_nearest}

-- the white one that a test of all found
white_at : (T near : List ℕ) → list_any (λ w. eqb (node_type T w) white) near ≡ true → (k : ℕ) × (k < length near) × (node_type T (get_or near k 0) ≡ white)
white_at T [] e = absurd (false≢true e)
white_at T (w ∷ near) e =
    ⊎_elim
    (λ (h : eqb (node_type T w) white ≡ true). (0, omega arith, eqb-true (node_type T w) white h))
    (λ (h : eqb (node_type T w) white ≡ false). let s = white_at T near (rw h at e) in (suc s.0, omega (arith, s.1), s.2))
    (by_bool (eqb (node_type T w) white))

some_white : (T near : List ℕ) → length near ≡ stay → list_any (λ w. eqb (node_type T w) white) near ≡ true → SomeWhite T near
some_white T near eight e = let s = white_at T near e in record { way = s.0; below = rw eight at s.1; is = s.2 }

-- all of them are nodes, as the test of all asks
pub all_nodes : (T : List ℕ) (l : ℕ) (near : List ℕ) → length near ≡ stay → AllBeside T l near → All (λ w. w < nodes T) near
all_nodes T l near eight b = All-from_get_or (λ (w : ℕ). w < nodes T) near 0 (λ D d. (b D (omega arith)).node)

-- the loop over the directions: the best so far is the least offset in those passed, or one less than the side
module _ (T : List ℕ) (l : ℕ) (near : List ℕ) where
  abbrev offset_at : ℕ → ℕ
  offset_at D = offset_from T D l (get_or near D 0) 0

  pub around_none : (w : ℕ) → l ≤ top_level → w ≡ 2 ^ l → w - 1 ≡ least_around T l near 0
  unfolding least
  around_none w t e = rw e (sym (min-eq_left (omega (arith, pow_mono {i = l} {j = top_level} t))))

  pub around_more : (best r d : ℕ) → best ≡ least_around T l near d → r ≡ min best (offset_at d) → r ≡ least_around T l near (d + 1)
  around_more best r d e h = h ∙ rw (e, least_next none offset_at d) (omega arith)

  pub around_zero : (best d : ℕ) → d < stay → best ≡ least_around T l near d → best ≡ 0 → best ≡ least_around T l near stay
  around_zero best d h e z = omega (arith, least_less none offset_at d stay (omega arith))

  pub around_all : (best d : ℕ) → stay ≤ d → d ≤ stay → best ≡ least_around T l near d → best ≡ least_around T l near stay
  around_all best d h k e =
      let q : d ≡ stay = omega arith in
      e ∙ ap (least_around T l near) q

  -- a white leaf is at offset 0
  pub around_white : (u : Bool) → length near ≡ stay → u ≡ list_any (λ w. eqb (node_type T w) white) near → u ≡ true → 0 ≡ least_around T l near stay
  around_white u eight told h =
      let s = some_white T near eight (sym told ∙ h) in
      let w : ℕ = get_or near s.way 0 in
      let leaf : is_fork T w ≡ false = ne_eqb (node_type T w) fork_type (λ e. omega (arith, s.is, e)) in
      let here : offset_at s.way ≡ 0 = offset_leaf T (east_step s.way) (south_step s.way) l w 0 0 leaf ∙ rw (eq-eqb (node_type T w) white s.is) in
      omega (arith, here, least_le none offset_at stay s.way s.below)

-- the nodes around a leaf that is not white: the least offset in them is the least in its eight neighbours
module _ {n : ℕ} {T : List ℕ} {p l x : ℕ} {near : List ℕ} (s : Inner n T p l) (land : Land T x) (a : Surrounds n T x p near) where
  offset_same : (D : ℕ) → D < stay → (g : Option Found) → neighbour_found n T p D ≡ g → offset_from T D l (node_or x g) 0 ≡ offset_found T D g
  unfolding offset_found node_or
  offset_same D d None e =
      offset_leaf T (east_step D) (south_step D) l x 0 0 land.leaf ∙ rw (ne_eqb (node_type T x) white (land.dark p s.place.node s.leaf s.dark))
  offset_same D d (Some g) e =
      let m : ℕ = g.node in
      let k : ℕ = g.level in
      let facts : FoundAt n T p m k = found_facts n T s.place.accepted p D s.place.node (omega arith) m k e in
      ⊎_elim
      (λ (f : is_fork T m ≡ true).
      let same : l ≡ k = omega (arith, facts.full f, level_is s.place) in
      rw same)
      (λ (f : is_fork T m ≡ false). offset_leaf T (east_step D) (south_step D) l m 0 0 f ∙ sym (offset_leaf T (east_step D) (south_step D) k m 0 0 f))
      (by_bool (is_fork T m))

  all_same : (D : ℕ) → D < stay → offset_from T D l (get_or near D 0) 0 ≡ offset_beside n T p D
  unfolding offset_beside
  all_same D d = ap (λ (w : ℕ). offset_from T D l w 0) (a.each D d) ∙ offset_same D d (neighbour_found n T p D) refl

  -- and below the side
  pub around_is : least_around T l near stay ≡ offset_around n T p stay
  around_is =
      let g = s.place in
      let e : 2 ^ l ≡ 2 ^ level_of n T p = ap (λ (k : ℕ). 2 ^ k) (level_is g) in
      let h = father_small n T g.accepted p g.node s.leaf s.dark s.has_father in
      ap (min (2 ^ l - 1)) (least_same none (λ D. offset_from T D l (get_or near D 0) 0) (offset_beside n T p) stay all_same) ∙ min-eq_right (omega arith)

  -- what is searched: nodes, and forks only of the leaf's own level
  found_beside : (D : ℕ) → D < stay → (g : Option Found) → neighbour_found n T p D ≡ g → Beside T l (node_or x g)
  unfolding node_or
  found_beside D d None e = record { node = a.off; spot = λ f. absurd (false≢true (sym a.leaf ∙ f)) }
  found_beside D d (Some g) e =
      let m : ℕ = g.node in
      let k : ℕ = g.level in
      let acc = s.place.accepted in
      let facts : FoundAt n T p m k = found_facts n T acc p D s.place.node (omega arith) m k e in
      record {
        node = facts.below;
        spot = λ f. record {
          n = n;
          place = record { accepted = acc; node = facts.below; level = omega (arith, facts.full f, facts.level, level_is s.place, depth_le T n m) };
          room = omega (arith, pow_mono {i = l} {j = top_level} (level_top s.place));
        };
      }

  pub all_beside : AllBeside T l near
  all_beside D d = rw (a.each D d) (found_beside D d (neighbour_found n T p D) refl)

-- the word of a leaf that is not white
pub black_nearest : (n : ℕ) (T : List ℕ) (p : ℕ) → is_fork T p ≡ false → (node_type T p ≡ white → ⊥)
    → distance_at plain_outside n T p ≡ nearest plain_outside n (pixel n T) (centre_across n T p) (centre_down n T p)
unfolding distance_at
black_nearest n T p f dark = rw (distance_at, ne_eqb (node_type T p) white dark, f)

-- the word of a node
module _ (n : ℕ) (T : List ℕ) (p kind : ℕ) (k : kind ≡ node_type T p) where
  pub white_word : kind ≡ white → 0 ≡ distance_at plain_outside n T p
  unfolding distance_at
  white_word e = rw (distance_at, eq-eqb (node_type T p) white (sym k ∙ e))

  pub fork_word : (kind ≡ white → ⊥) → kind ≡ fork_type → 0 ≡ distance_at plain_outside n T p
  unfolding distance_at
  fork_word h e = rw (distance_at, ne_eqb (node_type T p) white (λ q. h (k ∙ q)), eq-eqb (node_type T p) fork_type (sym k ∙ e))

  module _ (acc : Accepted n T) (lt : p < nodes T) (h : kind ≡ white → ⊥) (g : kind ≡ fork_type → ⊥) where
    f : is_fork T p ≡ false
    f = ne_eqb (node_type T p) fork_type (λ q. g (k ∙ q))

    dark : node_type T p ≡ white → ⊥
    dark q = h (k ∙ q)

    pub root_word : p ≡ 0 → none ≡ distance_at plain_outside n T p
    root_word z = sym (black_nearest n T p f dark ∙ root_nearest n T acc p lt f dark z)

    module _ (z : p ≡ 0 → ⊥) (l : ℕ) (el : l ≡ level_of n T p) where
      pub inner_place : Inner n T p l
      inner_place = record {
        place = record { accepted = acc; node = lt; level = omega (arith, el, depth_le T n p) };
        has_father = omega arith;
        leaf = f;
        dark = dark;
      }

      module _ (best w : ℕ) (e : best ≡ offset_around n T p stay) (ew : w ≡ 2 ^ l) where
        pub edge_asks : (w ≤ 2 ^ top_level) × (best < 2 ^ top_level)
        edge_asks =
            let pos : 0 < p = omega arith in
            let small = father_small n T acc p lt f dark pos in
            let s = side_small n T acc p lt f dark in
            (rw (ew, el) s, omega (arith, e))

        pub inner_word : (r : ℕ) → r ≡ w + 2 * best → r ≡ distance_at plain_outside n T p
        inner_word r er =
            let pos : 0 < p = omega arith in
            er ∙ rw (ew, el, e) (sym (black_nearest n T p f dark ∙ leaf_nearest n T acc p lt f dark pos))
