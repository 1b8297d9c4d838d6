-- The pass from the root down: a fork's sons get the nodes around them from the fork's, each word that is written is
-- its node's distance, and in the end every node's is.
use mathlib.Core.Bool.{Bool, true, false, false≢true}
use mathlib.Core.List.{List}
use mathlib.Core.Logic.{⊎_elim}
use mathlib.Core.Path.{◌≡◌, refl, ap, sym, ◌∙◌}
use Prim.Native.Nat.{ℕ, ◌+◌, ◌-◌, ◌*◌, ◌^◌, ◌≤◌, ◌<◌}
use native.Mathlib.Nat.{zero-add, eq-or-lt_of_le, le_of_suc-le-suc}
use native.Mathlib.Numerals.{add-one}
use native.Mathlib.Omega.{arith}
use lib.ListN.{length, set, length-set, replicate}
use lib.Seq.{get_or-set_same, get_or-set_other, ext_get_or}
use lib.Dec.{eqb}
use borrow.Author.Tests.{eq-eqb, ne_eqb, eqb-true, eqb-false}
use Rattle.base.proofs.BoolLaws.{by_bool}
use Rattle.base.proofs.TabLaws.{tab_at, tab_length}
use Rattle.quad.specs.Numbers.{white, black, fork_type, top_level}
use Rattle.table.specs.Table.{nodes, son, node_type, is_fork}
use Rattle.table.specs.Rules.{Accepted, AtLevel}
use Rattle.table.specs.Nodes.{level_of}
use Rattle.table.specs.Under.{Under}
use Rattle.table.proofs.AcceptedLaws.{sons_of, leaf_colour, level_is, level_top, fork_above, root_at, son_at}
use Rattle.table.proofs.UnderLaws.{under_still, under_leaf, under_fork, under_all}
use Rattle.neighbour_around.specs.Surround.{InNodes, son_surround, Surrounds}
use Rattle.neighbour_around.proofs.SurroundLaws.{son_surrounds, surround_nodes, root_surrounds}
use Rattle.neighbour.specs.Search.{stay}
use Rattle.distance.specs.Distance.{plain_outside, distance_at, distances_of}
use Rattle.distance_seek.specs.Around.{offset_around, least_around, AllBeside, Inner}
use Rattle.distance_fill.specs.Handed.{Land, Fork, Handed, Right, Fills}
use Rattle.distance_fill.proofs.LeafLaws.{father_small}
use Rattle.distance_fill.proofs.AroundLaws.{around_is, all_beside, white_word, fork_word, inner_place, edge_asks, inner_word}

-- one word written
module _ (n : ℕ) (T out : List ℕ) (s v : ℕ) (h : s < length out) (e : v ≡ distance_at plain_outside n T s) where
  set_right : Right n T (set out s v) s
  set_right = get_or-set_same out s v 0 h ∙ e

  set_kept : (t : ℕ) → Right n T out t → Right n T (set out s v) t
  set_kept t r = go (eqb t s) refl
    where
      go : (b : Bool) → eqb t s ≡ b → Right n T (set out s v) t
      go true d = rw (eqb-true t s d) set_right
      go false d = get_or-set_other out s t v 0 (eqb-false t s d) ∙ r

-- a fork's word
pub fork_right : (n : ℕ) (T : List ℕ) (p : ℕ) → is_fork T p ≡ true → 0 ≡ distance_at plain_outside n T p
fork_right n T p f =
    let k = eqb-true (node_type T p) fork_type f in
    fork_word n T p (node_type T p) refl (λ e. omega (arith, k)) k

-- what is written of a fork, itself and sons 0 to q - 1
pub record Filling (n : ℕ) (T old out : List ℕ) (l p q : ℕ) : Type 0 where
  pub few : q ≤ 4
  pub long : length out ≡ nodes T
  pub kept : (s : ℕ) → Right n T old s → Right n T out s
  pub own : Right n T out p
  pub sons : (i : ℕ) → i < q → Under T (Right n T out) (l - 1) (son T p i)

module _ (n : ℕ) (T old : List ℕ) (l p : ℕ) (z : Fork n T p l) (len : length old ≡ nodes T) where
  within : p < length old
  within = omega (arith, z.place.node)

  -- its own word first
  pub filling_none : Filling n T (set old p 0) (set old p 0) l p 0
  filling_none = record {
    few = omega arith;
    long = length-set old p 0 ∙ len;
    kept = λ s r. r;
    own = set_right n T old p 0 within (fork_right n T p z.fork);
    sons = λ i lt. absurd (omega arith);
  }

  pub filling_all : (out : List ℕ) (q : ℕ) → 4 ≤ q → Filling n T (set old p 0) out l p q → Fills n T old out l p
  filling_all out q h f = record {
    same = f.long ∙ sym len;
    kept = λ s r. f.kept s (set_kept n T old p 0 within (fork_right n T p z.fork) s r);
    done = under_fork T (Right n T out) l p (fork_above z.place z.fork) f.own (λ i i4. f.sons i (omega arith));
  }

-- a son is a node
pub fork_son : {n : ℕ} {T : List ℕ} {p l : ℕ} → Fork n T p l → (q s : ℕ) → q < 4 → s ≡ son T p q → s < nodes T
fork_son z q s q4 e = rw e (son_at z.place z.fork q q4).node

-- one son more
module _ {n : ℕ} {T old : List ℕ} {l p : ℕ} (z : Fork n T p l) {out : List ℕ} {q : ℕ} (f : Filling n T old out l p q) (q4 : q < 4) where
  filling_more : (out' : List ℕ) → length out' ≡ length out → ((s : ℕ) → Right n T out s → Right n T out' s)
      → Under T (Right n T out') (l - 1) (son T p q) → Filling n T old out' l p (q + 1)
  filling_more out' len' kept done = record {
    few = omega arith;
    long = len' ∙ f.long;
    kept = λ s r. kept s (f.kept s r);
    own = kept p f.own;
    sons = λ i lt.
        ⊎_elim
        (λ (d : i ≡ q). rw d done)
        (λ (d : i < q). under_still T (Right n T out) (Right n T out') kept (l - 1) (son T p i) (f.sons i d))
        (eq-or-lt_of_le (le_of_suc-le-suc (rw (add-one q) at lt)));
  }

  pub filling_fork : (out' : List ℕ) → Fills n T out out' (l - 1) (son T p q) → Filling n T old out' l p (q + 1)
  filling_fork out' g = filling_more out' g.same g.kept g.done

  pub filling_leaf : (s v : ℕ) → s ≡ son T p q → is_fork T (son T p q) ≡ false → v ≡ distance_at plain_outside n T (son T p q)
      → Filling n T old (set out s v) l p (q + 1)
  filling_leaf s v e leaf d =
      let lt : s < length out = omega (arith, e, f.long, (son_at z.place z.fork q q4).node) in
      let d' : v ≡ distance_at plain_outside n T s = rw e d in
      filling_more (set out s v) (length-set out s v) (set_kept n T out s v lt d')
      (under_leaf T (Right n T (set out s v)) (l - 1) (son T p q) leaf (rw (← e) (set_right n T out s v lt d')))

-- the sons of a fork to which the nodes around it were handed
module _ {n : ℕ} {T : List ℕ} {p : ℕ} {near : List ℕ} (l : ℕ) (h : Handed n T p (l + 1) near) where
  pub handed_nodes : InNodes T near
  handed_nodes = surround_nodes h.at.place.accepted h.at.place.node h.around

  module _ (q : ℕ) (q4 : q < 4) where
    pub son_place : AtLevel n T (son T p q) l
    son_place =
        let e : l + 1 - 1 ≡ l = omega arith in
        rw e at (son_at h.at.place h.at.fork q q4)

    pub son_handed : is_fork T (son T p q) ≡ true → Handed n T (son T p q) l (son_surround T p q near)
    son_handed f = record {
      at = record { place = son_place; fork = f };
      x = h.x;
      land = h.land;
      around = son_surrounds h.at.place.accepted h.around h.at.place.node h.at.fork q q4;
    }

    -- a son that is a leaf and not white
    module _ (leaf : is_fork T (son T p q) ≡ false) (s kind : ℕ) (is : s ≡ son T p q) (k : kind ≡ node_type T s) where
      pub leaf_white : kind ≡ white → 0 ≡ distance_at plain_outside n T (son T p q)
      leaf_white w = white_word n T (son T p q) kind (k ∙ ap (node_type T) is) w

      module _ (dark : kind ≡ white → ⊥) where
        other : kind ≡ fork_type → ⊥
        other e = false≢true (sym leaf ∙ eq-eqb (node_type T (son T p q)) fork_type (sym (k ∙ ap (node_type T) is) ∙ e))

        father : son T p q ≡ 0 → ⊥
        father e = omega (arith, e, (sons_of n T h.at.place.accepted p h.at.place.node h.at.fork q q4).above)

        inner : Inner n T (son T p q) l
        inner = inner_place n T (son T p q) kind (k ∙ ap (node_type T) is) h.at.place.accepted son_place.node dark other father l (level_is son_place)

        module _ (own : List ℕ) (eo : own ≡ son_surround T p q near) where
          around_son : Surrounds n T h.x (son T p q) own
          around_son = rw eo (son_surrounds h.at.place.accepted h.around h.at.place.node h.at.fork q q4)

          pub leaf_asks : (l ≤ top_level) × AllBeside T l own
          leaf_asks = (level_top son_place, all_beside inner h.land around_son)

          module _ (best w : ℕ) (eb : best ≡ least_around T l own stay) (ew : w ≡ 2 ^ l) where
            best_is : best ≡ offset_around n T (son T p q) stay
            best_is = eb ∙ around_is inner h.land around_son

            pub leaf_edge : (w ≤ 2 ^ top_level) × (best < 2 ^ top_level)
            leaf_edge = edge_asks n T (son T p q) kind (k ∙ ap (node_type T) is) h.at.place.accepted son_place.node dark other father l (level_is son_place) best w best_is ew

            pub leaf_word : (r : ℕ) → r ≡ w + 2 * best → r ≡ distance_at plain_outside n T (son T p q)
            leaf_word r er = inner_word n T (son T p q) kind (k ∙ ap (node_type T) is) h.at.place.accepted son_place.node dark other father l (level_is son_place) best w best_is ew r er

    -- in the code's own values
    pub son_fork_at : is_fork T (son T p q) ≡ true → (s m : ℕ) → s ≡ son T p q → l ≡ m → Fork n T s m
    son_fork_at f s m e d = rw (e, ← d) (record { place = son_place; fork = f })

    pub son_handed_at : is_fork T (son T p q) ≡ true → (s : ℕ) (own : List ℕ) → s ≡ son T p q → own ≡ son_surround T p q near → Handed n T s l own
    son_handed_at f s own e d = rw (e, d) (son_handed f)

pub fills_at : (n : ℕ) (T old out : List ℕ) (l m s c : ℕ) → s ≡ c → l ≡ m → Fills n T old out m s → Fills n T old out l c
fills_at n T old out l m s c e d h = rw (d, ← e) h

pub handed_half : {n : ℕ} {T : List ℕ} {p l : ℕ} {near : List ℕ} → Handed n T p l near → Handed n T p (l - 1 + 1) near
handed_half {l = l} h =
    let pos = fork_above h.at.place h.at.fork in
    let e : l - 1 + 1 ≡ l = omega arith in
    rw e h

module _ (T : List ℕ) (p q s kind : ℕ) (e : s ≡ son T p q) (k : kind ≡ node_type T s) where
  pub son_fork : kind ≡ fork_type → is_fork T (son T p q) ≡ true
  son_fork h = eq-eqb (node_type T (son T p q)) fork_type (sym (k ∙ ap (node_type T) e) ∙ h)

  pub son_leaf : (kind ≡ fork_type → ⊥) → is_fork T (son T p q) ≡ false
  son_leaf h = ne_eqb (node_type T (son T p q)) fork_type (λ z. h (k ∙ ap (node_type T) e ∙ z))

-- a pixel's word is its type: a black one has a white brother
pub pixel_right : (n : ℕ) (T : List ℕ) (p q : ℕ) → Fork n T p 1 → q < 4 → (is_fork T (son T p q) ≡ false) × (node_type T (son T p q) ≡ distance_at plain_outside n T (son T p q))
pixel_right n T p q z q4 =
    let acc = z.place.accepted in
    let s : ℕ = son T p q in
    let here : AtLevel n T s 0 = son_at z.place z.fork q q4 in
    let leaf : is_fork T s ≡ false = ⊎_elim (λ (f : is_fork T s ≡ true). absurd (omega (arith, fork_above here f))) (λ f. f) (by_bool (is_fork T s)) in (
      leaf,
      ⊎_elim
          (λ (w : eqb (node_type T s) white ≡ true).
          let e = eqb-true (node_type T s) white w in
          e ∙ white_word n T s (node_type T s) refl e)
          (λ (w : eqb (node_type T s) white ≡ false).
          let dark = eqb-false (node_type T s) white w in
          let other : node_type T s ≡ fork_type → ⊥ = λ e. false≢true (sym leaf ∙ eq-eqb (node_type T s) fork_type e) in
          let above = (sons_of n T acc p z.place.node z.fork q q4).above in
          let father : s ≡ 0 → ⊥ = λ e. omega arith in
          let small = father_small n T acc s here.node leaf dark (omega arith) in
          let side : 2 ^ level_of n T s ≡ 1 = ap (λ (k : ℕ). 2 ^ k) (sym (level_is here)) in
          let one : node_type T s ≡ 1 = omega (arith, leaf_colour n T acc s here.node leaf, dark) in
          one ∙ inner_word n T s (node_type T s) refl acc here.node dark other father 0 (level_is here) 0 1 (omega (arith, small, side)) refl 1 refl)
          (by_bool (eqb (node_type T s) white)),
    )

pub filling_pixel : {n : ℕ} {T old : List ℕ} {p : ℕ} → (z : Fork n T p 1) → {out : List ℕ} {q : ℕ} → Filling n T old out 1 p q → q < 4 → (s : ℕ) → s ≡ son T p q
    → Filling n T old (set out s (node_type T s)) 1 p (q + 1)
filling_pixel {n} {T} {p = p} z {q = q} f q4 s e =
    let r = pixel_right n T p q z q4 in
    filling_leaf z f q4 s (node_type T s) e r.0 (rw e r.1)

-- the leaf that stands for the outside
module _ (n : ℕ) (T : List ℕ) (acc : Accepted n T) where
  last_leaf : (p : ℕ) → p + 1 ≡ nodes T → is_fork T p ≡ false
  last_leaf p e =
      ⊎_elim
      (λ (f : is_fork T p ≡ true).
      let s = sons_of n T acc p (omega arith) f 0 (omega arith) in
      absurd (omega (arith, s.above, s.below)))
      (λ f. f)
      (by_bool (is_fork T p))

  dark_black : (s : ℕ) → s < nodes T → is_fork T s ≡ false → (node_type T s ≡ white → ⊥) → node_type T s ≡ black
  dark_black s lt f d = omega (arith, leaf_colour n T acc s lt f, d)

  pub land_black : (p kind : ℕ) → p < nodes T → kind ≡ node_type T p → kind ≡ black → Land T p
  land_black p kind lt k e = record {
    node = lt;
    leaf = ne_eqb (node_type T p) fork_type (λ f. omega arith);
    dark = λ s ls f d w. omega arith;
  }

  pub land_last : (p : ℕ) → p + 1 ≡ nodes T → ((j : ℕ) → j < p → node_type T j ≡ black → ⊥) → Land T p
  land_last p e none-black = record {
    node = omega arith;
    leaf = last_leaf p e;
    dark = λ s ls f d w.
        let b = dark_black s ls f d in
        ⊎_elim (λ (z : s ≡ p). omega (arith, ap (node_type T) z)) (λ (z : s < p). none-black s z b) (eq-or-lt_of_le (le_of_suc-le-suc (omega arith)));
  }

pub none_more : (T : List ℕ) (p : ℕ) → ((j : ℕ) → j < p → node_type T j ≡ black → ⊥) → (kind : ℕ) → kind ≡ node_type T p → (kind ≡ black → ⊥)
    → (j : ℕ) → j < p + 1 → node_type T j ≡ black → ⊥
none_more T p h kind k d j lt e =
    ⊎_elim (λ (z : j ≡ p). d (k ∙ ap (node_type T) (sym z) ∙ e)) (λ (z : j < p). h j z e) (eq-or-lt_of_le (le_of_suc-le-suc (rw (add-one p) at lt)))

-- the whole
module _ (n : ℕ) (T : List ℕ) (acc : Accepted n T) (old : List ℕ) (len : length old ≡ nodes T) where
  pub root_handed : (x : ℕ) → Land T x → is_fork T 0 ≡ true → Handed n T 0 n (replicate 8 x)
  root_handed x land f = record {
    at = record { place = root_at acc; fork = f };
    x = x;
    land = land;
    around = root_surrounds n T x acc land.node land.leaf;
  }

  all_right : (out : List ℕ) → length out ≡ length old → ((s : ℕ) → s < nodes T → Right n T out s) → out ≡ distances_of plain_outside n T
  unfolding distances_of
  all_right out same r =
      ext_get_or 0 out _ (same ∙ len ∙ sym (tab_length (distance_at plain_outside n T) (nodes T) 0))
      (λ i lt. r i (omega arith) ∙ sym (tab_at (distance_at plain_outside n T) (nodes T) 0 i (omega arith) ∙ ap (distance_at plain_outside n T) (zero-add i)))

  pub whole_filled : (out : List ℕ) → Fills n T old out n 0 → out ≡ distances_of plain_outside n T
  whole_filled out f = all_right out f.same (under_all T (Right n T out) n acc f.done)

  -- a sheet of one leaf
  pub leaf_filled : (v : ℕ) → is_fork T 0 ≡ false → v ≡ distance_at plain_outside n T 0 → set old 0 v ≡ distances_of plain_outside n T
  leaf_filled v f e =
      let lt : 0 < length old = omega (arith, acc.sized.some) in
      all_right (set old 0 v) (length-set old 0 v) (under_all T (Right n T (set old 0 v)) n acc (under_leaf T (Right n T (set old 0 v)) n 0 f (set_right n T old 0 v lt e)))
