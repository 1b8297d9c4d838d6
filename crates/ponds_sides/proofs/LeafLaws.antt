-- The walk at a leaf: what its label, its sides and the filled lines come to.
use mathlib.Core.List.{List}
use mathlib.Core.Path.{◌≡◌, refl, ap, sym, ◌∙◌}
use Prim.Native.Nat.{ℕ, ◌+◌, ◌-◌, ◌*◌, ◌^◌, ◌≤◌, ◌<◌}
use native.Mathlib.Omega.{arith}
use lib.ListN.{length, get_or, set}
use lib.Pow.{pow_pos}
use borrow.Author.Tests.{eq-eqb}
use Rattle.quad.specs.Numbers.{black}
use Rattle.table.specs.Table.{node_type}
use Rattle.table.specs.Nodes.{side_of}
use Rattle.table.proofs.AcceptedLaws.{level_is}
use Rattle.neighbour.proofs.SideLaws.{leaf_holds}
use Rattle.ponds.specs.Chain.{Water}
use Rattle.ponds.specs.Words.{word_of}
use Rattle.ponds.proofs.NodeLaws.{same_or_not}
use Rattle.ponds_sets.specs.Sets.{place_of, Placed, Begins, Further, Alike}
use Rattle.ponds_sets.specs.Lines.{Has, Label, Line, MetAt, Met, across}
use Rattle.ponds_sets.specs.Touch.{one_if_own, Touching, Touched, LabelsAs}
use Rattle.ponds_sets.specs.Walk.{Gone, Along, Shore, Shores, LinesFilled, Sides, ToLeaf}
use Rattle.ponds_sets.proofs.PlaceLaws.{black_leaf, has_contains, has_moved, own_pixel, has_across}
use Rattle.ponds_sets.proofs.SetsLaws.{further_none, further_on}
use Rattle.ponds_sets.proofs.LineLaws.{label_still, line_still, met_still}
use Rattle.ponds_sets.proofs.ShoreLaws.{fill_none, fill_more}

not_own : (a p r : ℕ) → r ≡ one_if_own a p → r ≡ 0 → a ≡ p → ⊥
unfolding one_if_own
not_own a p r e z s = let f : r ≡ 1 = rw (eq-eqb a p s) at e in omega (arith, f, z)

module _ {W L : List ℕ} {kind p side x y : ℕ} (z : ToLeaf W L kind p side x y) where
  abbrev n : ℕ
  n = z.coming.n

  abbrev T : List ℕ
  T = z.T

  wide : side ≡ side_of n T p
  wide = z.power ∙ ap (λ (k : ℕ). 2 ^ k) (level_is z.coming.at)

  some : 0 < side
  some = rw z.power (pow_pos z.l)

  -- the pixels of the block are p's
  has : {u v : ℕ} → x ≤ u → u < x + side → y ≤ v → v < y + side → Has n T p u v
  has a b c d = record {
    node = z.coming.at.node;
    west = omega (arith, z.coming.left, a);
    east = omega (arith, z.coming.left, b, wide);
    north = omega (arith, z.coming.top, c);
    south = omega (arith, z.coming.top, d, wide);
  }

  here : Has n T p x y
  here = has (omega arith) (omega (arith, some)) (omega arith) (omega (arith, some))

  -- a black leaf with a pixel of p's is p
  only : {j u v : ℕ} → Water T j → Has n T j u v → Has n T p u v → j ≡ p
  only {j} {u} {v} w hj hp =
      sym (leaf_holds n T z.coming.sets.accepted j n u v (has_contains hj) (black_leaf T j w.wet))
      ∙ leaf_holds n T z.coming.sets.accepted p n u v (has_contains hp) z.leaf

  begins_only : (i : ℕ) → Water T i → Begins n T i x y z.l → i ≡ p
  begins_only i w b =
      only w (own_pixel i w.node) (has b.west (omega (arith, b.east, z.power)) b.north (omega (arith, b.south, z.power)))

  begins_own : Begins n T p x y z.l
  begins_own = record {
    west = omega (arith, z.coming.left);
    east = omega (arith, z.coming.left, z.power, some);
    north = omega (arith, z.coming.top);
    south = omega (arith, z.coming.top, z.power, some);
  }

  pub leaf_bounds : (x < across) × (y < across)
  leaf_bounds = has_across z.coming.sets.accepted here

  -- its last pixel lies on the sheet
  pub leaf_room : (x + side ≤ across) × (y + side ≤ across)
  leaf_room =
      let last : Has n T p (x + side - 1) (y + side - 1) =
      has (omega (arith, some)) (omega (arith, some)) (omega (arith, some)) (omega (arith, some)) in
      let m = has_across z.coming.sets.accepted last in
      (omega (arith, m.0, some), omega (arith, m.1, some))

  pub leaf_touching : (north west place : ℕ) → north ≡ get_or L x 0 → west ≡ get_or L (across + y) 0 → place ≡ across * y + x → Touching W kind p north west place
  unfolding place_of
  leaf_touching north west place en ew ep =
      let c = z.coming in
      record {
        n = n;
        T = T;
        lead = c.lead;
        sets = c.sets;
        node = c.at.node;
        leaf = z.leaf;
        is = z.is;
        free = λ b. c.free p (record { node = c.at.node; wet = sym z.is ∙ b }) begins_own;
        stands = omega (arith, ep, c.left, c.top);
        above = rw (c.left, c.top, en) (c.lines.north x (omega arith) (omega (arith, z.power, some)));
        before = rw (c.left, c.top, ew) (c.lines.west y (omega arith) (omega (arith, z.power, some)));
      }

  -- once it has its label
  module _ (W₁ : List ℕ) (label : ℕ) (t : Touched n T W z.coming.lead p W₁ label) where
    met_here : node_type T p ≡ black → MetAt n T W₁ t.lead' p x y
    met_here b = rw (z.coming.left, z.coming.top) at (t.met b)

    pub leaf_shore : kind ≡ black → Shore W₁ L label x y side
    leaf_shore kb =
        let b : node_type T p ≡ black = sym z.is ∙ kb in
        let a = met_here b in
        record {
          n = n;
          T = T;
          lead = t.lead';
          p = p;
          l = z.l;
          sets = t.further.sets;
          own = t.label b;
          left = z.coming.left;
          top = z.coming.top;
          wide = wide;
          power = z.power;
          first = record {
            north = λ i l e j w q. let f : x + i ≡ x = omega arith in a.north e j w (rw f at q);
            west = λ i l e j w q. let f : y + i ≡ y = omega arith in a.west e j w (rw f at q);
          };
          lines = record {
            north = λ u c d. line_still t.further (z.coming.lines.north u c d);
            west = λ v c d. line_still t.further (z.coming.lines.west v c d);
          };
        }

    -- all pixels of p, where those along its sides have been met
    pub all_met : (W₂ : List ℕ) (lead₂ : ℕ → ℕ) → Placed T W₂ p → Along n T W₂ lead₂ p x y side → Met n T W₂ lead₂ p
    all_met W₂ lead₂ h a u v k =
        let c = z.coming in
        let lx : x ≤ u = omega (arith, k.west, c.left) in
        let ly : y ≤ v = omega (arith, k.north, c.top) in
        let hx : u < x + side = omega (arith, k.east, c.left, wide) in
        let hy : v < y + side = omega (arith, k.south, c.top, wide) in
        -- a pixel before it that is p's own
        let own : (j s r : ℕ) → Water T j → Has n T j s r → Has n T p s r → Placed T W₂ j × (lead₂ j ≡ lead₂ p) =
        λ j s r w q o. let e = only w q o in rw e (h, refl) in
        record {
          north = λ l j w q.
              same_or_not v y
              (λ e.
              let f : x + (u - x) ≡ u = omega arith in
              a.north (u - x) (omega arith) (omega (arith, l, e)) j w (has_moved f (omega (arith, e)) q))
              (λ ne. own j u (v - 1) w q (has lx hx (omega arith) (omega arith)));
          west = λ l j w q.
              same_or_not u x
              (λ e.
              let f : y + (v - y) ≡ v = omega arith in
              a.west (v - y) (omega arith) (omega (arith, l, e)) j w (has_moved (omega (arith, e)) f q))
              (λ ne. own j (u - 1) v w q (has (omega arith) (omega arith) ly hy));
        }

    module _ (W₂ : List ℕ) (lead₂ : ℕ → ℕ) (m : Further n T W₁ t.lead' W₂ lead₂) (alike : Alike W₁ W₂)
        (met : node_type T p ≡ black → Met n T W₂ lead₂ p) (L' : List ℕ) (r : ℕ) (filled : LinesFilled L label x y side L') (er : r ≡ one_if_own label p) where
      whole : Further n T W z.coming.lead W₂ lead₂
      whole = further_on t.further m

      its_label : node_type T p ≡ black → Label n T W₂ lead₂ label p
      its_label b = label_still m (t.label b)

      -- a line beyond p, at a pixel of p's
      line_past : (e u v : ℕ) → 0 < e → Has n T p u v → Line n T W₂ lead₂ e u v label
      line_past e u v le h = record {
        off = λ o. absurd (omega (arith, o, le));
        on = λ k. record {
          wet = λ j w q. let s = only w q h in rw s (its_label (ap (node_type T) (sym s) ∙ w.wet));
          dry = λ o. same_or_not (node_type T p) black (λ b. (p, h, its_label b)) (λ nb. absurd (o (t.dry nb).0));
        };
      }

      pub leaf_gone : Gone n T W z.coming.lead L x y z.l W₂ L' r
      leaf_gone = record {
        lead' = lead₂;
        further = whole;
        met = λ i h.
            same_or_not i p
            (λ e. rw e (met (ap (node_type T) (sym e) ∙ h.water.wet)))
            (λ ne.
            same_or_not (word_of W i) 0
            (λ o. absurd (h.some (alike i (t.rest i ne o))))
            (λ s. let was : Placed T W i = record { water = h.water; some = s } in met_still whole was (z.coming.met i was)));
        lines = record {
          long = filled.long;
          north = λ u a b.
              let b' : u < x + side = omega (arith, b, z.power) in
              rw (filled.north u a b')
              (line_past (y + 2 ^ z.l) u (y + 2 ^ z.l - 1) (omega (arith, z.power, some))
              (has a b' (omega (arith, z.power, some)) (omega (arith, z.power, some))));
          west = λ v a b.
              let b' : v < y + side = omega (arith, b, z.power) in
              rw (filled.west v a b')
              (line_past (x + 2 ^ z.l) (x + 2 ^ z.l - 1) v (omega (arith, z.power, some))
              (has (omega (arith, z.power, some)) (omega (arith, z.power, some)) a b'));
          rest = λ i a b. filled.rest i (λ c d. a c (omega (arith, d, z.power))) (λ c d. b c (omega (arith, d, z.power)));
        };
        placed = λ i w b. let e = begins_only i w b in rw e (m.placed p (t.label (ap (node_type T) (sym e) ∙ w.wet)).leaf);
        others = λ i w nb o. alike i (t.rest i (λ e. nb (rw e begins_own)) o);
        none = λ zero i w b.
            let e = begins_only i w b in
            let bp : node_type T p ≡ black = ap (node_type T) (sym e) ∙ w.wet in
            rw e (m.linked p (t.label bp).leaf (t.linked bp (not_own label p r er zero)));
      }

-- in the code's own values
module _ {W L : List ℕ} {kind p side x y : ℕ} (W₁ : List ℕ) (label : ℕ) where
  pub leaf_white : (kind ≡ black → ⊥) → (L' : List ℕ) (r : ℕ) → LinesFilled L label x y side L' → r ≡ one_if_own label p
      → (z : ToLeaf W L kind p side x y) → Touched z.coming.n z.T W z.coming.lead p W₁ label
      → Gone z.coming.n z.T W z.coming.lead L x y z.l W₁ L' r
  leaf_white nb L' r f er z t =
      leaf_gone z W₁ label t W₁ t.lead' (further_none t.further.sets) (λ i e. e) (λ b. absurd (nb (z.is ∙ b))) L' r f er

  pub leaf_black : kind ≡ black → (W₂ : List ℕ) → Shores W₁ L label x y side side W₂ → (L' : List ℕ) (r : ℕ) → LinesFilled L label x y side L' → r ≡ one_if_own label p
      → (z : ToLeaf W L kind p side x y) → Touched z.coming.n z.T W z.coming.lead p W₁ label
      → Gone z.coming.n z.T W z.coming.lead L x y z.l W₂ L' r
  unfolding leaf_shore
  leaf_black kb W₂ h L' r f er z t =
      let s = h.shored (leaf_shore z W₁ label t kb) in
      let hp = s.further.placed p (t.label (sym z.is ∙ kb)).leaf in
      leaf_gone z W₁ label t W₂ s.lead' s.further h.alike (λ b. all_met z W₁ label t W₂ s.lead' hp s.along) L' r f er

-- a pixel's sides are one pixel long
pub pixel_past : {W L : List ℕ} {kind p x y : ℕ} (W₁ : List ℕ) (label : ℕ) (L' : List ℕ) (r : ℕ) → LinesFilled L label x y 1 L' → r ≡ one_if_own label p
    → (z : ToLeaf W L kind p 1 x y) → Touched z.coming.n z.T W z.coming.lead p W₁ label
    → Gone z.coming.n z.T W z.coming.lead L x y z.l W₁ L' r
unfolding leaf_shore
pixel_past W₁ label L' r f er z t =
    leaf_gone z W₁ label t W₁ t.lead' (further_none t.further.sets) (λ i e. e)
    (λ b. all_met z W₁ label t W₁ t.lead' (t.label b).leaf (leaf_shore z W₁ label t (z.is ∙ b)).first)
    L' r f er

-- one column and one row filled
pub filled_one : (L : List ℕ) (label x y : ℕ) → length L ≡ 2 * across → x < across → y < across → LinesFilled L label x y 1 (set (set L x label) (across + y) label)
filled_one L label x y long lx ly =
    let ex : x + 0 ≡ x = omega arith in
    let ey : across + y + 0 ≡ across + y = omega arith in
    rw (ex, ey) at (fill_more (fill_none L label x y) long (omega (arith, lx)) (omega (arith, ly)))

-- the sides of a black leaf gone along, and of no other
pub leaf_past : {W L : List ℕ} {kind p side x y : ℕ} (W₁ W₂ : List ℕ) (label : ℕ) → Sides kind W₁ L label x y side W₂ → (L' : List ℕ) (r : ℕ)
    → LinesFilled L label x y side L' → r ≡ one_if_own label p → (z : ToLeaf W L kind p side x y) → Touched z.coming.n z.T W z.coming.lead p W₁ label
    → Gone z.coming.n z.T W z.coming.lead L x y z.l W₂ L' r
leaf_past {kind = kind} W₁ W₂ label h L' r f er z t =
    same_or_not kind black
    (λ b. leaf_black W₁ label b W₂ (h.wet b) L' r f er z t)
    (λ nb. rw (h.dry nb) (leaf_white W₁ label nb L' r f er z t))

pub sides_wet : {kind : ℕ} {W L W' : List ℕ} {label x y side : ℕ} → kind ≡ black → Shores W L label x y side side W' → Sides kind W L label x y side W'
sides_wet b h = record { wet = λ e. h; dry = λ z. absurd (z b) }

pub sides_dry : {kind : ℕ} {W L : List ℕ} {label x y side : ℕ} → (kind ≡ black → ⊥) → Sides kind W L label x y side W
sides_dry nb = record { wet = λ e. absurd (nb e); dry = λ z. refl }

pub leaf_touched : {W L : List ℕ} {kind p side x y : ℕ} (z : ToLeaf W L kind p side x y) (north west place : ℕ) → north ≡ get_or L x 0
    → west ≡ get_or L (across + y) 0 → place ≡ across * y + x → (W₁ : List ℕ) (label : ℕ) → LabelsAs W kind p north west place W₁ label
    → Touched z.coming.n z.T W z.coming.lead p W₁ label
unfolding leaf_touching
leaf_touched z north west place en ew ep W₁ label t = t (leaf_touching z north west place en ew ep)
