-- A table in preorder, as the pass that knows each number beforehand goes through it: the sons passed so far stand one
-- after the other, each behind all that is seen from its brother (`Passing`). Where all four are passed, they are what
-- a fork's sons must be, and the fork is seen with all below it.
use Rattle.std.specs.Prelude.{None, IfSome}
use mathlib.Core.Bool.{Bool, true, false, true≢false}
use mathlib.Core.List.{List, [], ◌∷◌}
use mathlib.Core.Logic.{⊎_elim}
use mathlib.Core.Path.{◌≡◌, refl, ap, sym, ◌∙◌}
use Prim.Native.Nat.{ℕ, ◌+◌, ◌-◌, ◌*◌, ◌≤◌, ◌<◌}
use native.Mathlib.Nat.{eq-or-lt_of_le, le_of_suc-le-suc}
use native.Mathlib.Numerals.{add-one}
use native.Mathlib.Omega.{arith}
use lib.Dec.{eqb}
use lib.ListN.{get_or}
use borrow.Author.Tests.{eq-eqb, ne_eqb, eqb-true, eqb-false, leb-true, not-true}
use Rattle.base.specs.Tab.{sum}
use Rattle.base.proofs.BoolLaws.{and_left, and_right, by_bool}
use Rattle.base.proofs.CaseLaws.{past, through}
use Rattle.quad.specs.Tree.{like_types}
use Rattle.quad.proofs.TreeLaws.{by_quadrant}
use Rattle.quad.specs.Numbers.{top_colour, fork_type, none}
use Rattle.table.specs.Table.{nodes, father, son, node_type, is_fork}
use Rattle.table.specs.Links.{SonIn, four_sons}
use Rattle.table_sound.specs.Seen.{AllNodes, like_leaves, leaf_ok, seen_of}
use Rattle.table_order.specs.Order.{two_are, leaf_from, pixels_from, ForkOf, Named, needless_fork, Ordered}
use Rattle.table_sound.proofs.SeenLaws.{sons_seen, seen_leaf, seen_no_leaf, seen_fork, leaf_words_ok, added_all, fit_sons}

-- where no node is told, nothing is said
pub no_order : (T : List ℕ) (l p : ℕ) → IfSome None (Ordered T l p)
no_order T l p = tt

-- two words below 2^32 are told by one number
pub two_joined : (T : List ℕ) (i a b x y : ℕ) → get_or T i 0 < 4294967296 → x < 4294967296 → a ≡ get_or T i 0 + 4294967296 * get_or T (i + 1) 0
    → b ≡ x + 4294967296 * y → eqb a b ≡ two_are T i x y
unfolding two_are
two_joined T i a b x y h h2 ea eb = go (eqb (get_or T i 0) x) refl (eqb (get_or T (i + 1) 0) y) refl
  where
    go : (u : Bool) → eqb (get_or T i 0) x ≡ u → (v : Bool) → eqb (get_or T (i + 1) 0) y ≡ v → eqb a b ≡ two_are T i x y
    go false eu v ev = rw eu (ne_eqb a b (λ e. eqb-false (get_or T i 0) x eu (omega arith)))
    go true eu false ev = rw (eu, ev) (ne_eqb a b (λ e. eqb-false (get_or T (i + 1) 0) y ev (omega (arith, eqb-true (get_or T i 0) x eu))))
    go true eu true ev = rw (eu, ev) (eq-eqb a b (omega (arith, eqb-true (get_or T i 0) x eu, eqb-true (get_or T (i + 1) 0) y ev)))

-- what two words are
two_told : (T : List ℕ) (i a b : ℕ) → two_are T i a b ≡ true → (get_or T i 0 ≡ a) × (get_or T (i + 1) 0 ≡ b)
unfolding two_are
two_told T i a b e = (eqb-true _ a (and_left _ _ e), eqb-true _ b (and_right _ _ e))

-- what the six words of a leaf are
leaf_parts : (T : List ℕ) (i f : ℕ) → leaf_from T i f ≡ true
    → (get_or T (i + 5) 0 ≤ top_colour) × (two_are T i f none ≡ true) × (two_are T (i + 2) none none ≡ true) × (get_or T (i + 4) 0 ≡ none)
unfolding leaf_from
leaf_parts T i f e =
    let x = and_left _ _ e in
    let y = and_left _ _ x in
    (leb-true _ top_colour (and_left _ _ y), and_right _ _ y, and_right _ _ x, eqb-true _ none (and_right _ _ e))

pub leaf_told : (T : List ℕ) (s f : ℕ) → leaf_from T (6 * s) f ≡ true → (is_fork T s ≡ false) × (leaf_ok T s ≡ true) × (father T s ≡ f)
leaf_told T s f e =
    let x = leaf_parts T (6 * s) f e in
    let a = two_told T (6 * s) f none x.1 in
    let b = two_told T (6 * s + 2) none none x.2 in
    let n3 : son T s 2 ≡ none = ap (λ (i : ℕ). get_or T i 0) {x = 6 * s + 3} {y = 6 * s + 2 + 1} (omega arith) ∙ b.1 in (
      ne_eqb (node_type T s) fork_type (λ h. omega arith),
      leaf_words_ok T s x.0 (by_quadrant (λ (q : ℕ). son T s q ≡ none) a.1 b.0 n3 x.3),
      ap (λ (i : ℕ). get_or T i 0) {x = 6 * s + 0} {y = 6 * s} (omega arith) ∙ a.0,
    )

-- a leaf is one node, or is not seen
leaf_most : (T : List ℕ) (l s : ℕ) → is_fork T s ≡ false → seen_of T l s ≤ 1
leaf_most T l s f =
    ⊎_elim
    (λ (e : leaf_ok T s ≡ true). omega (arith, seen_leaf T l s f e))
    (λ (e : leaf_ok T s ≡ false). omega (arith, seen_no_leaf T l s f e))
    (by_bool (leaf_ok T s))

sum_more : (g : ℕ → ℕ) (q : ℕ) → sum g (q + 1) ≡ g q + sum g q
unfolding sum
sum_more g q = rw (add-one q)

sum_four : (g : ℕ → ℕ) → (sum g 0 ≡ 0) × (sum g 1 ≡ g 0 + sum g 0) × (sum g 2 ≡ g 1 + sum g 1) × (sum g 3 ≡ g 2 + sum g 2) × (sum g 4 ≡ g 3 + sum g 3)
unfolding sum
sum_four g = (refl, refl, refl, refl, refl)

module _ (T : List ℕ) (l p : ℕ) where
  -- the nodes that stand before son q
  abbrev pub before : ℕ → ℕ
  before q = p + 1 + sum (sons_seen T (l - 1) p) q

  -- son q, in its place and seen
  pub record Stands (q : ℕ) : Type 0 where
    pub at : son T p q ≡ before q
    pub node : son T p q < nodes T
    pub up : father T (son T p q) ≡ p
    pub some : 0 < sons_seen T (l - 1) p q

  -- the sons below q are passed, and the next node is this one
  pub record Passing (q next : ℕ) : Type 0 where
    pub few : q ≤ 4
    pub here : next ≡ before q
    pub room : next + 4 ≤ nodes T + q
    pub sons : (j : ℕ) → j < q → Stands j

  pub passing_none : p + 5 ≤ nodes T → Passing 0 (p + 1)
  unfolding sum
  passing_none h = record { few = omega arith; here = omega arith; room = omega arith; sons = λ j lt. absurd (omega arith) }

  -- one son more
  module _ (q s : ℕ) (h : Passing q s) (q4 : q < 4) (named : son T p q ≡ s) (up : father T s ≡ p) where
    passing_more : (r : ℕ) → r + 4 ≤ nodes T + (q + 1) → s < r → r ≡ s + seen_of T (l - 1) s → Passing (q + 1) r
    passing_more r le lt e =
        let node : s < nodes T = omega (arith, h.room) in
        let part : sons_seen T (l - 1) p q ≡ seen_of T (l - 1) s = ap (seen_of T (l - 1)) named in
        let stands : Stands q = record { at = named ∙ h.here; node = rw named node; up = rw named up; some = omega (arith, part) } in
        record {
          few = omega arith;
          here = omega (arith, h.here, part, sum_more (sons_seen T (l - 1) p) q);
          room = le;
          sons = λ j lj. ⊎_elim (λ (d : j ≡ q). rw d stands) (λ (d : j < q). h.sons j d) (eq-or-lt_of_le (le_of_suc-le-suc (omega arith)));
        }

    pub passing_fork : (r : ℕ) → Ordered T (l - 1) s r → r + 4 ≤ nodes T + (q + 1) → Passing (q + 1) r
    passing_fork r o le = passing_more r le o.after o.seen

    pub passing_leaf : (r : ℕ) → r ≡ s + 1 → is_fork T s ≡ false → leaf_ok T s ≡ true → Passing (q + 1) r
    passing_leaf r e f ok = passing_more r (omega (arith, h.room)) (omega arith) (omega (arith, seen_leaf T (l - 1) s f ok))

  in_place : (q : ℕ) → Stands q → SonIn T p q
  in_place q s = record { above = omega (arith, s.at); below = s.node; up = s.up }

  -- all four sons passed, and not like leaves
  pub passed : (next : ℕ) → Passing 4 next → 0 < l → is_fork T p ≡ true → like_leaves T (four_sons T p) ≡ false → Ordered T l p next
  passed next h high f unlike =
      let g : ℕ → ℕ = sons_seen T (l - 1) p in
      let a = h.sons 0 (omega arith) in
      let b = h.sons 1 (omega arith) in
      let c = h.sons 2 (omega arith) in
      let d = h.sons 3 (omega arith) in
      let s = sum_four g in
      let ab : son T p 0 < son T p 1 = omega (arith, a.at, b.at, a.some, s.1) in
      let bc : son T p 1 < son T p 2 = omega (arith, b.at, c.at, b.some, s.2) in
      let cd : son T p 2 < son T p 3 = omega (arith, c.at, d.at, c.some, s.3) in
      let away : (i j : ℕ) → i < j → eqb i j ≡ false = λ i j lt. ne_eqb i j (λ z. omega arith) in
      let ok = fit_sons T p (record {
        sons = by_quadrant (SonIn T p) (in_place 0 a) (in_place 1 b) (in_place 2 c) (in_place 3 d);
        apart = record {
          ab = away (son T p 0) (son T p 1) ab;
          ac = away (son T p 0) (son T p 2) (omega (arith, ab, bc));
          ad = away (son T p 0) (son T p 3) (omega (arith, ab, bc, cd));
          bc = away (son T p 1) (son T p 2) bc;
          bd = away (son T p 1) (son T p 3) (omega (arith, bc, cd));
          cd = away (son T p 2) (son T p 3) cd;
        };
        unlike = unlike;
      }) in
      let e = seen_fork T l p f (λ z. omega arith) ok in
      let all = added_all g (by_quadrant (λ (q : ℕ). 0 < g q) a.some b.some c.some d.some) in
      let is : next ≡ p + seen_of T l p = omega (arith, h.here, s.0, s.1, s.2, s.3, s.4, all, e) in
      record { within = omega (arith, h.room); after = omega (arith, h.here); seen = is }

-- the loop's turns, in its own values: the word that names the son, and the node after it
module _ (T : List ℕ) (l p q s count w : ℕ) (h : Passing T l p q s) (q4 : q < 4) (c : ForkOf T count p) (named : w ≡ son T p q) (is : w ≡ s) where
  pub again_fork : (f r : ℕ) → f ≡ father T s → f ≡ p → Ordered T (l - 1) s r → r + 3 ≤ count + q → Passing T l p (q + 1) r
  again_fork f r e d o le = passing_fork T l p q s h q4 (sym named ∙ is) (sym e ∙ d) r o (omega (arith, c.all))

  pub again_leaf : leaf_from T (6 * s) p ≡ true → Passing T l p (q + 1) (s + 1)
  again_leaf e =
      let x = leaf_told T s p e in
      passing_leaf T l p q s h q4 (sym named ∙ is) x.2 (s + 1) refl x.0 x.1

-- a fork all of whose sons are passed
module _ (T : List ℕ) (l p q next count : ℕ) (h : Passing T l p q next) (q4 : 4 ≤ q) (c : ForkOf T count p) where
  pub passed_named : Named T p
  unfolding four_sons
  passed_named =
      let sons : AllNodes T (four_sons T p) =
      λ k d lt. by_quadrant (λ (j : ℕ). get_or (four_sons T p) j d < nodes T) (h.sons 0 (omega arith)).node (h.sons 1 (omega arith)).node
      (h.sons 2 (omega arith)).node (h.sons 3 (omega arith)).node k lt in
      record { node = c.node; sons = sons; few = c.few }

  -- a leaf adds one node
  leaf_adds : (j : ℕ) → j < 4 → (node_type T (son T p j) ≡ fork_type → ⊥) → sons_seen T (l - 1) p j ≡ 1
  leaf_adds j j4 z =
      omega (arith, (h.sons j (omega arith)).some, leaf_most T (l - 1) (son T p j) (ne_eqb _ fork_type z))

  -- so like leaves end at the fifth node
  like_fifth : like_leaves T (four_sons T p) ≡ true → next ≡ p + 5
  unfolding like_leaves four_sons like_types
  like_fifth e =
      let x = past (eqb (node_type T (son T p 0)) fork_type) _ e in
      let y = through (eqb (node_type T (son T p 0)) (node_type T (son T p 1))) _ x.1 in
      let z = through (eqb (node_type T (son T p 0)) (node_type T (son T p 2))) _ y.1 in
      let k = eqb-false (node_type T (son T p 0)) fork_type x.0 in
      let a = leaf_adds 0 (omega arith) k in
      let b = leaf_adds 1 (omega arith) (λ f. k (eqb-true _ _ y.0 ∙ f)) in
      let c' = leaf_adds 2 (omega arith) (λ f. k (eqb-true _ _ z.0 ∙ f)) in
      let d = leaf_adds 3 (omega arith) (λ f. k (eqb-true _ _ z.1 ∙ f)) in
      let s = sum_four (sons_seen T (l - 1) p) in
      let four : q ≡ 4 = omega (arith, h.few) in
      let here : next ≡ p + 1 + sum (sons_seen T (l - 1) p) 4 = rw four at h.here in
      omega (arith, here, a, b, c', d, s.0, s.1, s.2, s.3, s.4)

  pub passed_told : (u : Bool) → 0 < l → u ≡ needless_fork T p next → u ≡ false → Ordered T l p next
  unfolding needless_fork
  passed_told u high e f =
      let four : q ≡ 4 = omega (arith, h.few) in
      passed T l p next (rw four at h) high c.fork (go (like_leaves T (four_sons T p)) refl (sym e ∙ f))
    where
      go : (b : Bool) → like_leaves T (four_sons T p) ≡ b → needless_fork T p next ≡ false → b ≡ false
      go false d n = refl
      go true d n = absurd (true≢false (sym (rw (eq-eqb next (p + 5) (like_fifth d), d) refl) ∙ n))

-- a fork of four pixels that stand in order
record Pixels (T : List ℕ) (count p : ℕ) : Type 0 where
  room : p + 5 ≤ count
  first : two_are T (6 * p + 1) (p + 1) (p + 2) ≡ true
  last : two_are T (6 * p + 3) (p + 3) (p + 4) ≡ true
  nw : leaf_from T (6 * p + 6) p ≡ true
  ne : leaf_from T (6 * p + 12) p ≡ true
  sw : leaf_from T (6 * p + 18) p ≡ true
  se : leaf_from T (6 * p + 24) p ≡ true
  unlike : like_leaves T ((p + 1) ∷ (p + 2) ∷ (p + 3) ∷ (p + 4) ∷ []) ≡ false

pixels_parts : (T : List ℕ) (count p : ℕ) → pixels_from T count p ≡ true → Pixels T count p
unfolding pixels_from
pixels_parts T count p e =
    let g = and_left _ _ e in
    let f = and_left _ _ g in
    let d = and_left _ _ f in
    let c = and_left _ _ d in
    let b = and_left _ _ c in
    let a = and_left _ _ b in
    record {
      room = leb-true (p + 5) count (and_left _ _ a);
      first = and_right _ _ a;
      last = and_right _ _ b;
      nw = and_right _ _ c;
      ne = and_right _ _ d;
      sw = and_right _ _ f;
      se = and_right _ _ g;
      unlike = not-true _ (and_right _ _ e);
    }

four_named : (T : List ℕ) (p : ℕ) {a b c d : ℕ} → son T p 0 ≡ a → son T p 1 ≡ b → son T p 2 ≡ c → son T p 3 ≡ d → four_sons T p ≡ a ∷ b ∷ c ∷ d ∷ []
unfolding four_sons
four_named T p e f g h = rw (e, f, g, h)

pub pixels_passed : (T : List ℕ) (p count : ℕ) → ForkOf T count p → pixels_from T count p ≡ true → Ordered T 1 p (p + 5)
pixels_passed T p count c e =
    let x = pixels_parts T count p e in
    let m = two_told T (6 * p + 1) (p + 1) (p + 2) x.first in
    let k = two_told T (6 * p + 3) (p + 3) (p + 4) x.last in
    let at : (i j : ℕ) → i ≡ j → get_or T i 0 ≡ get_or T j 0 = λ i j h. ap (λ (k : ℕ). get_or T k 0) h in
    let n1 : son T p 0 ≡ p + 1 = m.0 in
    let n2 : son T p 1 ≡ p + 2 = at (6 * p + 2) (6 * p + 1 + 1) (omega arith) ∙ m.1 in
    let n3 : son T p 2 ≡ p + 3 = k.0 in
    let n4 : son T p 3 ≡ p + 4 = at (6 * p + 4) (6 * p + 3 + 1) (omega arith) ∙ k.1 in
    let told : (s i : ℕ) → 6 * s ≡ i → leaf_from T i p ≡ true → (is_fork T s ≡ false) × (leaf_ok T s ≡ true) × (father T s ≡ p) =
    λ s i h t. leaf_told T s p (rw h t) in
    let a = told (p + 1) (6 * p + 6) (omega arith) x.nw in
    let b = told (p + 2) (6 * p + 12) (omega arith) x.ne in
    let c' = told (p + 3) (6 * p + 18) (omega arith) x.sw in
    let d = told (p + 4) (6 * p + 24) (omega arith) x.se in
    let p0 = passing_none T 1 p (omega (arith, c.all, x.room)) in
    let p1 = passing_leaf T 1 p 0 (p + 1) p0 (omega arith) n1 a.2 (p + 2) (omega arith) a.0 a.1 in
    let p2 = passing_leaf T 1 p 1 (p + 2) p1 (omega arith) n2 b.2 (p + 3) (omega arith) b.0 b.1 in
    let p3 = passing_leaf T 1 p 2 (p + 3) p2 (omega arith) n3 c'.2 (p + 4) (omega arith) c'.0 c'.1 in
    let p4 = passing_leaf T 1 p 3 (p + 4) p3 (omega arith) n4 d.2 (p + 5) (omega arith) d.0 d.1 in
    passed T 1 p (p + 5) p4 (omega arith) c.fork (rw (four_named T p n1 n2 n3 n4) x.unlike)
