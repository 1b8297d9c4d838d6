-- Along the north side and the west side of a black leaf: one pixel more is met, whichever side it lies on.
use mathlib.Core.List.{List}
use mathlib.Core.Path.{◌≡◌, refl, ap, sym, ◌∙◌}
use Prim.Native.Nat.{ℕ, ◌+◌, ◌-◌, ◌*◌, ◌≤◌, ◌<◌}
use native.Mathlib.Omega.{arith}
use lib.ListN.{length, get_or, set, length-set}
use lib.Seq.{get_or-set_same, get_or-set_other}
use lib.Dec.{eqb}
use lib.Pow.{pow_pos}
use mir.Val.{bool_byte}
use borrow.Author.Tests.{ne_eqb}
use Rattle.quad.specs.Numbers.{black}
use Rattle.ponds.specs.Chain.{Water, Shares, Chain, link}
use Rattle.ponds.proofs.ChainLaws.{chain_joined}
use Rattle.ponds.proofs.NodeLaws.{same_or_not, last_or_before}
use Rattle.ponds_sets.specs.Sets.{Placed, Sets, Further, Alike}
use Rattle.ponds_sets.specs.Lines.{Has, Label, Line, across}
use Rattle.ponds_sets.specs.Touch.{differ_of, one_if_other}
use Rattle.ponds_sets.specs.Walk.{Facing, Meets, Nexts, Along, Shore, Shored, Shores, Quiet, Sides, LinesFilled}
use Rattle.ponds_sets.proofs.PlaceLaws.{has_across}
use Rattle.ponds_sets.proofs.SetsLaws.{further_none, further_on, not_root}
use Rattle.ponds_sets.proofs.TouchLaws.{apart_is, set_chain, shares_north, shares_west}
use Rattle.ponds_sets.proofs.LineLaws.{line_still, label_still}

-- v tells of the pixel (x, y) just beyond a side of p, where there is one
pub record Edge (n : ℕ) (T W : List ℕ) (f : ℕ → ℕ) (p e x y v : ℕ) : Type 0 where
  pub line : Line n T W f e x y v
  pub shares : 0 < e → (j : ℕ) → Has n T j x y → Shares n T p j

pub record EdgeMet (n : ℕ) (T W : List ℕ) (f : ℕ → ℕ) (p e x y : ℕ) (W' : List ℕ) : Type 0 where
  pub lead' : ℕ → ℕ
  pub further : Further n T W f W' lead'
  pub met : 0 < e → (j : ℕ) → Water T j → Has n T j x y → Placed T W' j × (lead' j ≡ lead' p)

pub edge_still : {n : ℕ} {T W W' : List ℕ} {f g : ℕ → ℕ} {p e x y v : ℕ} → Further n T W f W' g → Edge n T W f p e x y v → Edge n T W' g p e x y v
edge_still m d = record { line = line_still m d.line; shares = d.shares }

module _ {n : ℕ} {T W : List ℕ} {f : ℕ → ℕ} {p e x y v label : ℕ} (s : Sets n T W f) (l : Label n T W f label p) (d : Edge n T W f p e x y v) where
  -- the black leaf there
  there : (v ≡ 0 → ⊥) → (0 < e) × ((j : ℕ) × Has n T j x y × Label n T W f v j)
  there some = same_or_not e 0 (λ z. absurd (some (d.line.off z))) (λ z. let k : 0 < e = omega arith in (k, (d.line.on k).dry some))

  pub edge_facing : Facing W label v
  edge_facing = record { n = n; T = T; lead = f; sets = s; own = l.label; there = λ some. (there some).1.2.label }

  way : (v ≡ 0 → ⊥) → Chain n T label v
  way some =
      let t = there some in
      let j = t.1.0 in
      let b = t.1.2 in
      chain_joined n T label p v
      (set_chain s l.label l.leaf l.one)
      (link l.leaf.water (d.shares t.0 j t.1.1) (set_chain s b.leaf b.label (sym b.one)))

  pub edge_met : (W' : List ℕ) → Meets W label v W' → EdgeMet n T W f p e x y W'
  edge_met W' m =
      let u = m.faced n T f s l.label (λ some. (there some).1.2.label) way in
      let g = u.lead' in
      record {
        lead' = g;
        further = u.further;
        met = λ k j w h.
            let b = (d.line.on k).wet j w h in
            let some = not_root s v b.label.water in
            let a = u.further in (
              a.placed j b.leaf,
              a.together j v b.leaf b.label (sym b.one) ∙ u.one some ∙ a.together label p l.label l.leaf l.one,
            );
      }

  -- where p's set has v's leaf already, nothing is to be done
  edge_known : ((v ≡ 0 → ⊥) → f v ≡ f p) → EdgeMet n T W f p e x y W
  edge_known known = record {
    lead' = f;
    further = further_none s;
    met = λ k j w h. let b = (d.line.on k).wet j w h in (b.leaf, sym b.one ∙ known (not_root s v b.label.water));
  }

  pub edge_next : (before : ℕ) → (v ≡ before → (v ≡ 0 → ⊥) → f v ≡ f p) → (W' : List ℕ) → Nexts W label v before W' → EdgeMet n T W f p e x y W'
  edge_next before known W' m = same_or_not v before (λ e. rw (m.same e) (edge_known (known e))) (λ ne. edge_met W' (m.new ne))

pub next_none : {W : List ℕ} {label other before : ℕ} → other ≡ before → Nexts W label other before W
next_none e = record { same = λ f. refl; new = λ ne. absurd (ne e) }

pub next_met : {W W' : List ℕ} {label other before : ℕ} → (other ≡ before → ⊥) → Meets W label other W' → Nexts W label other before W'
next_met ne m = record { same = λ e. absurd (ne e); new = λ z. m }

module _ {W W' : List ℕ} {label other before : ℕ} (m : Nexts W label other before W') where
  pub next_long : length W' ≡ length W
  next_long = same_or_not other before (λ e. ap (λ (l : List ℕ). length l) (m.same e)) (λ ne. (m.new ne).long)

  pub next_alike : Alike W W'
  next_alike = same_or_not other before (λ e. rw (m.same e) (λ i z. z)) (λ ne. (m.new ne).alike)

-- what tells of the pixel before, and has been met there, is known of the next where both tell the same
edge_before : {n : ℕ} {T W W₁ : List ℕ} {f g : ℕ → ℕ} {p e x y v : ℕ} → Sets n T W f → Line n T W f e x y v → Further n T W f W₁ g
    → (0 < e → (j : ℕ) → Water T j → Has n T j x y → Placed T W₁ j × (g j ≡ g p)) → (v ≡ 0 → ⊥) → g v ≡ g p
edge_before {e = e} {v = v} s l m met some =
    same_or_not e 0 (λ z. absurd (some (l.off z)))
    (λ z.
    let k : 0 < e = omega arith in
    let t = (l.on k).dry some in
    let b = t.2 in
    m.together v t.0 b.label b.leaf b.one ∙ (met k t.0 b.leaf.water t.1).1)

pub along_still : {n : ℕ} {T W W' : List ℕ} {f g : ℕ → ℕ} {p x y k : ℕ} → Further n T W f W' g → Placed T W p → Along n T W f p x y k → Along n T W' g p x y k
along_still {p = p} m h a = record {
  north = λ i l e j w b. let t = a.north i l e j w b in (m.placed j t.0, m.together j p t.0 h t.1);
  west = λ i l e j w b. let t = a.west i l e j w b in (m.placed j t.0, m.together j p t.0 h t.1);
}

-- where pixel k of both sides has been met too, the first k + 1 have
shored_more : {n : ℕ} {T W W₁ W₂ W₃ : List ℕ} {f : ℕ → ℕ} {p x y k : ℕ} → Placed T W p → (s : Shored n T W f p x y k W₁)
    → (a : EdgeMet n T W₁ s.lead' p y (x + k) (y - 1) W₂) → EdgeMet n T W₂ a.lead' p x (x - 1) (y + k) W₃ → Shored n T W f p x y (k + 1) W₃
shored_more {p = p} {k = k} own s a b =
    let hp = s.further.placed p own in
    let two = further_on a.further b.further in
    let old = along_still two hp s.along in
    record {
      lead' = b.lead';
      further = further_on s.further two;
      along = record {
        north = λ i l e j w q.
            last_or_before i k l
            (λ ei.
            let t = a.met e j w (rw ei at q) in
            (b.further.placed j t.0, b.further.together j p t.0 (a.further.placed p hp) t.1))
            (λ before. old.north i before e j w q);
        west = λ i l e j w q. last_or_before i k l (λ ei. b.met e j w (rw ei at q)) (λ before. old.west i before e j w q);
      };
    }

module _ {W L : List ℕ} {label x y side : ℕ} where
  -- the first pixels have been met
  pub shore_start : Shores W L label x y side 1 W
  shore_start = record {
    long = refl;
    alike = λ i e. e;
    shored = λ z. record { lead' = z.lead; further = further_none z.sets; along = z.first };
  }

  module _ (z : Shore W L label x y side) where
    -- the pixels along the sides are p's
    on_north : (k : ℕ) → k < side → Has z.n z.T z.p (x + k) y
    on_north k l = record {
      node = z.own.leaf.water.node;
      west = omega (arith, z.left);
      east = omega (arith, z.left, z.wide, l);
      north = omega (arith, z.top);
      south = omega (arith, z.top, z.wide, l);
    }

    on_west : (k : ℕ) → k < side → Has z.n z.T z.p x (y + k)
    on_west k l = record {
      node = z.own.leaf.water.node;
      west = omega (arith, z.left);
      east = omega (arith, z.left, z.wide, l);
      north = omega (arith, z.top);
      south = omega (arith, z.top, z.wide, l);
    }

    pub shore_bounds : (k : ℕ) → k < side → (x + k < across) × (y + k < across)
    shore_bounds k l = ((has_across z.sets.accepted (on_north k l)).0, (has_across z.sets.accepted (on_west k l)).1)

    pub side_some : 1 ≤ side
    side_some = rw z.power (pow_pos z.l)

    -- so the sides lie on the sheet
    pub shore_room : (x + side ≤ across) × (y + side ≤ across)
    shore_room = let m = shore_bounds (side - 1) (omega (arith, side_some)) in (omega (arith, m.0, side_some), omega (arith, m.1, side_some))

    -- what the lines tell beyond pixel k
    north_edge : (k : ℕ) → k < side → Edge z.n z.T W z.lead z.p y (x + k) (y - 1) (get_or L (x + k) 0)
    north_edge k l = record {
      line = z.lines.north (x + k) (omega arith) (omega (arith, z.power));
      shares = λ e j h. shares_north (on_north k l) e h;
    }

    west_edge : (k : ℕ) → k < side → Edge z.n z.T W z.lead z.p x (x - 1) (y + k) (get_or L (across + (y + k)) 0)
    west_edge k l = record {
      line = z.lines.west (y + k) (omega arith) (omega (arith, z.power));
      shares = λ e j h. shares_west (on_west k l) e h;
    }

  -- from the first k pixels to the next, for one reading of the words: the north side's pixel k, and then, that one
  -- met, the west side's
  module _ (z : Shore W L label x y side) (k : ℕ) (some : 1 ≤ k) (lt : k < side) {W₁ : List ℕ} (s : Shored z.n z.T W z.lead z.p x y k W₁) where
    first_edge : (v : ℕ) → v ≡ get_or L (x + k) 0 → Edge z.n z.T W₁ s.lead' z.p y (x + k) (y - 1) v
    first_edge v ev = rw ev (edge_still s.further (north_edge z k lt))

    first_facing : (v : ℕ) → v ≡ get_or L (x + k) 0 → Facing W₁ label v
    first_facing v ev = edge_facing s.further.sets (label_still s.further z.own) (first_edge v ev)

    first_met : (v b : ℕ) → v ≡ get_or L (x + k) 0 → b ≡ get_or L (x + k - 1) 0 → (W₂ : List ℕ) → Nexts W₁ label v b W₂
        → EdgeMet z.n z.T W₁ s.lead' z.p y (x + k) (y - 1) W₂
    first_met v b ev eb W₂ m =
        let here : x + k - 1 ≡ x + (k - 1) = omega (arith, some) in
        edge_next s.further.sets (label_still s.further z.own) (first_edge v ev) b
        (λ same.
        edge_before z.sets (rw (same, eb, here) (north_edge z (k - 1) (omega (arith, lt, some))).line) s.further
        (s.along.north (k - 1) (omega (arith, some))))
        W₂ m

    module _ {W₂ : List ℕ} (a : EdgeMet z.n z.T W₁ s.lead' z.p y (x + k) (y - 1) W₂) where
      to_second : Further z.n z.T W z.lead W₂ a.lead'
      to_second = further_on s.further a.further

      second_edge : (u : ℕ) → u ≡ get_or L (across + (y + k)) 0 → Edge z.n z.T W₂ a.lead' z.p x (x - 1) (y + k) u
      second_edge u eu = rw eu (edge_still to_second (west_edge z k lt))

      second_facing : (u : ℕ) → u ≡ get_or L (across + (y + k)) 0 → Facing W₂ label u
      second_facing u eu = edge_facing to_second.sets (label_still to_second z.own) (second_edge u eu)

      second_met : (u c : ℕ) → u ≡ get_or L (across + (y + k)) 0 → c ≡ get_or L (across + (y + k - 1)) 0 → (W₃ : List ℕ) → Nexts W₂ label u c W₃
          → EdgeMet z.n z.T W₂ a.lead' z.p x (x - 1) (y + k) W₃
      second_met u c eu ec W₃ m =
          let here : y + k - 1 ≡ y + (k - 1) = omega (arith, some) in
          edge_next to_second.sets (label_still to_second z.own) (second_edge u eu) c
          (λ same.
          edge_before z.sets (rw (same, ec, here) (west_edge z (k - 1) (omega (arith, lt, some))).line) to_second
          ((along_still a.further (s.further.placed z.p z.own.leaf) s.along).west (k - 1) (omega (arith, some))))
          W₃ m

  module _ (k : ℕ) (W₁ : List ℕ) (some : 1 ≤ k) (lt : k < side) (h : Shores W L label x y side k W₁) (v : ℕ) (ev : v ≡ get_or L (x + k) 0) where
    -- pixel k of the north side
    pub north_facing : Shore W L label x y side → Facing W₁ label v
    north_facing z = first_facing z k some lt (h.shored z) v ev

    -- and of the west side
    module _ (b : ℕ) (eb : b ≡ get_or L (x + k - 1) 0) (W₂ : List ℕ) (m : Nexts W₁ label v b W₂) (u : ℕ) (eu : u ≡ get_or L (across + (y + k)) 0) where
      pub west_facing : Shore W L label x y side → Facing W₂ label u
      west_facing z = second_facing z k some lt (h.shored z) (first_met z k some lt (h.shored z) v b ev eb W₂ m) u eu

      pub shore_more : (c : ℕ) → c ≡ get_or L (across + (y + k - 1)) 0 → (W₃ : List ℕ) → Nexts W₂ label u c W₃ → Shores W L label x y side (k + 1) W₃
      shore_more c ec W₃ n₃ = record {
        long = next_long n₃ ∙ next_long m ∙ h.long;
        alike = λ i e. next_alike n₃ i (next_alike m i (h.alike i e));
        shored = λ z.
            shored_more z.own.leaf (h.shored z) (first_met z k some lt (h.shored z) v b ev eb W₂ m)
            (second_met z k some lt (h.shored z) (first_met z k some lt (h.shored z) v b ev eb W₂ m) u c eu ec W₃ n₃);
      }

pub shore_all : {W L W' : List ℕ} {label x y side i : ℕ} → Shores W L label x y side i W' → i ≤ side → side ≤ i → Shores W L label x y side side W'
shore_all {side = side} {i} h a b = let e : i ≡ side = omega arith in rw e at h

apart_none : (a b r : ℕ) → r ≡ differ_of a b → r ≡ 0 → a ≡ b
apart_none a b r e z = same_or_not a b (λ s. s) (λ ne. absurd (omega (arith, apart_is a b r e ne, z)))

-- a leaf of two by two pixels: the second pixel of the north side, and then that of the west side
pub two_north : {W L : List ℕ} {label x y n₁ : ℕ} → n₁ ≡ get_or L (x + 1) 0 → Shore W L label x y 2 → Facing W label n₁
two_north {W} a₁ z = north_facing 1 W (omega arith) (omega arith) shore_start _ a₁ z

before : (L : List ℕ) (x v : ℕ) → v ≡ get_or L x 0 → v ≡ get_or L (x + 1 - 1) 0
before L x v a = let e : x + 1 - 1 ≡ x = omega arith in rw e a

module _ {W L W₂ : List ℕ} {label x y n₀ n₁ w₁ : ℕ} (a₀ : n₀ ≡ get_or L x 0) (a₁ : n₁ ≡ get_or L (x + 1) 0) (m : Nexts W label n₁ n₀ W₂) (b₁ : w₁ ≡ get_or L (across + (y + 1)) 0) where
  pub two_west : Shore W L label x y 2 → Facing W₂ label w₁
  two_west z = west_facing 1 W (omega arith) (omega arith) shore_start _ a₁ _ (before L x n₀ a₀) W₂ m _ b₁ z

  pub two_shores : (w₀ : ℕ) → w₀ ≡ get_or L (across + y) 0 → (W₃ : List ℕ) → Nexts W₂ label w₁ w₀ W₃ → Shores W L label x y 2 2 W₃
  two_shores w₀ b₀ W₃ m₂ =
      let e : across + (y + 1 - 1) ≡ across + y = omega arith in
      shore_more 1 W (omega arith) (omega arith) shore_start _ a₁ _ (before L x n₀ a₀) W₂ m _ b₁ _ (rw e b₀) W₃ m₂

pub two_quiet : {W L : List ℕ} {kind label x y n₀ n₁ w₀ w₁ a b : ℕ} → n₀ ≡ get_or L x 0 → n₁ ≡ get_or L (x + 1) 0 → w₀ ≡ get_or L (across + y) 0 → w₁ ≡ get_or L (across + (y + 1)) 0
    → a ≡ differ_of n₁ n₀ → b ≡ differ_of w₁ w₀ → 2 * bool_byte (eqb kind black) + a + b ≤ 2 → Sides kind W L label x y 2 W
two_quiet {W} {kind = kind} {w₀ = w₀} {a = a} {b = b} a₀ a₁ b₀ b₁ ea eb few = record {
  wet = λ wet.
      let f : 2 * bool_byte (eqb black black) + a + b ≤ 2 = rw wet at few in
      two_shores a₀ a₁ (next_none (apart_none _ _ a ea (omega (arith, f)))) b₁ w₀ b₀ W (next_none (apart_none _ _ b eb (omega (arith, f))));
  dry = λ z. refl;
}

-- where the three numbers are more than two, the leaf is black
pub two_wet : {kind a b : ℕ} → a ≤ 1 → b ≤ 1 → 2 < 2 * bool_byte (eqb kind black) + a + b → kind ≡ black
two_wet {kind} {a} {b} la lb many =
    same_or_not kind black (λ e. e)
    (λ ne. let f : 2 < 2 * 0 + a + b = rw (ne_eqb kind black ne) at many in absurd (omega (arith, f, la, lb)))

-- the lines filled
pub fill_none : (L : List ℕ) (label x y : ℕ) → LinesFilled L label x y 0 L
fill_none L label x y = record {
  long = refl;
  north = λ u a b. absurd (omega (arith, a, b));
  west = λ v a b. absurd (omega (arith, a, b));
  rest = λ i a b. refl;
}

module _ {L L' : List ℕ} {label x y i : ℕ} (h : LinesFilled L label x y i L') (long : length L ≡ 2 * across) (lx : x + i < across) (ly : y + i < across) where
  pub fill_more : LinesFilled L label x y (i + 1) (set (set L' (x + i) label) (across + y + i) label)
  fill_more =
      let A = set L' (x + i) label in
      let B = set A (across + y + i) label in
      let lb : length L' ≡ 256 = h.long ∙ long in
      let la : length A ≡ 256 = length-set L' (x + i) label ∙ lb in
      let inner : (j : ℕ) → (j ≡ x + i → ⊥) → get_or A j 0 ≡ get_or L' j 0 = λ j z. get_or-set_other L' (x + i) j label 0 z in
      let outer : (j : ℕ) → (j ≡ across + y + i → ⊥) → get_or B j 0 ≡ get_or A j 0 = λ j z. get_or-set_other A (across + y + i) j label 0 z in
      record {
        long = length-set A (across + y + i) label ∙ length-set L' (x + i) label ∙ h.long;
        north = λ u a b.
            outer u (λ e. omega (arith, e, a, b, lx))
            ∙ same_or_not u (x + i) (λ e. rw e (get_or-set_same L' (x + i) label 0 (omega (arith, lx, lb)))) (λ z. inner u z ∙ h.north u a (omega (arith, b, z)));
        west = λ v a b.
            same_or_not v (y + i)
            (λ e. let f : across + v ≡ across + y + i = omega (arith, e) in rw f (get_or-set_same A (across + y + i) label 0 (omega (arith, ly, la))))
            (λ z. outer (across + v) (λ e. z (omega (arith, e))) ∙ inner (across + v) (λ e. omega (arith, e, lx)) ∙ h.west v a (omega (arith, b, z)));
        rest = λ j a b.
            outer j (λ e. b (omega (arith, e)) (omega (arith, e)))
            ∙ inner j (λ e. a (omega (arith, e)) (omega (arith, e)))
            ∙ h.rest j (λ p q. a p (omega (arith, q))) (λ p q. b p (omega (arith, q)));
      }

-- the words of a leaf of two by two pixels, one by one
pub fill_two_lem : (L : List ℕ) (label x y : ℕ) → length L ≡ 2 * across → x + 2 ≤ across → y + 2 ≤ across
    → LinesFilled L label x y 2 (set (set (set (set L x label) (across + y) label) (x + 1) label) (across + y + 1) label)
fill_two_lem L label x y long lx ly =
    let ex : x + 0 ≡ x = omega arith in
    let ey : across + y + 0 ≡ across + y = omega arith in
    let one = fill_more (fill_none L label x y) long (omega (arith, lx)) (omega (arith, ly)) in
    rw (ex, ey) at (fill_more one long (omega (arith, lx)) (omega (arith, ly)))

pub fill_all : {L L' : List ℕ} {label x y side i : ℕ} → LinesFilled L label x y i L' → i ≤ side → side ≤ i → LinesFilled L label x y side L'
fill_all {side = side} {i} h a b = let e : side ≡ i = omega arith in rw e h

-- nothing of another set along the sides: then they have been met as they are
pub no_other : (v label r : ℕ) → r ≡ one_if_other v label → r ≡ 0 → (v ≡ 0 → ⊥) → v ≡ label
unfolding one_if_other
no_other v label r e z some =
    same_or_not v label (λ s. s)
    (λ ne. let f : r ≡ 1 = rw (ne_eqb v 0 some, ne_eqb v label ne) at e in absurd (omega (arith, f, z)))

module _ {W L : List ℕ} {label x y side : ℕ} (qa : Quiet L label x side 0) (qb : Quiet L label (across + y) side 0) where
  pub quiet_shores : Shores W L label x y side side W
  quiet_shores = record {
    long = refl;
    alike = λ i e. e;
    shored = λ z. record {
      lead' = z.lead;
      further = further_none z.sets;
      along = record {
        north = λ i l e j w h.
            let t = ((north_edge z i l).line.on e).wet j w h in
            let s = qa.same refl i l (not_root z.sets (get_or L (x + i) 0) t.label.water) in
            (t.leaf, sym t.one ∙ ap z.lead s ∙ z.own.one);
        west = λ i l e j w h.
            let t = ((west_edge z i l).line.on e).wet j w h in
            let f : across + y + i ≡ across + (y + i) = omega arith in
            let s = qb.same refl i l (λ o. not_root z.sets (get_or L (across + (y + i)) 0) t.label.water (rw f at o)) in
            (t.leaf, sym t.one ∙ ap z.lead (rw f at s) ∙ z.own.one);
      };
    };
  }
