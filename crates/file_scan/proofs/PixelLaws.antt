-- Four pixels by their twelve bytes, which are taken as three numbers: they are what the definition reads, both ways
-- round.
use Rattle.std.specs.Prelude.{Some, None}
use Rattle.std.specs.Bool.{then_some}
use Rattle.std.specs.Int.{from_le_bytes, w32}
use mathlib.Core.Bool.{Bool, true, false, false≢true}
use mathlib.Core.List.{List, [], ◌∷◌}
use mathlib.Core.Path.{◌≡◌, refl, ap, sym, ◌∙◌}
use Prim.Native.Nat.{ℕ, ◌+◌, ◌-◌, ◌*◌, ◌/◌, ◌%◌, ◌≤◌, ◌<◌}
use native.Mathlib.Omega.{arith}
use lib.Dec.{ltb}
use lib.ListN.{length, get_or}
use borrow.Author.Tests.{le-ltb, ltb-false}
use Rattle.base.proofs.CaseLaws.{past, cond_case}
use Rattle.answer.specs.declared.Refusal.TheVariants.{NeedlessFork}
use Rattle.quad.specs.Numbers.{top_colour}
use Rattle.quad.specs.Tree.{Tree, leaf, fork, colour, alike, like_types, Coloured, size_of}
use Rattle.quad.proofs.TreeLaws.{alike_types, within_zero}
use Rattle.file.specs.File.{Got, got, bad, mark, node_mark, onward, four_at, block_at}
use Rattle.file.specs.Reading.{place_after, FourBytes, pixel_types}
use Rattle.file.proofs.SpeltLaws.{Stands}
use Rattle.file.proofs.BlockLaws.{record_leaf, block_spells, root_kind}

-- four types of pixels
pub record Types (a b c d : ℕ) : Type 0 where
  pub nw : a ≤ top_colour
  pub ne : b ≤ top_colour
  pub sw : c ≤ top_colour
  pub se : d ≤ top_colour
  pub unlike : like_types a b c d ≡ false

types_are : (a b c d : ℕ) → pixel_types a b c d ≡ true → Types a b c d
unfolding pixel_types
types_are a b c d e =
    let f = past (ltb top_colour a) _ e in
    let g = past (ltb top_colour b) _ f.1 in
    let h = past (ltb top_colour c) _ g.1 in
    let i = past (ltb top_colour d) _ h.1 in
    record {
      nw = ltb-false top_colour a f.0;
      ne = ltb-false top_colour b g.0;
      sw = ltb-false top_colour c h.0;
      se = ltb-false top_colour d i.0;
      unlike = (past (like_types a b c d) true i.1).0;
    }

types_told : (a b c d : ℕ) → Types a b c d → pixel_types a b c d ≡ true
unfolding pixel_types
types_told a b c d t = rw (le-ltb top_colour a t.nw, le-ltb top_colour b t.ne, le-ltb top_colour c t.sw, le-ltb top_colour d t.se, t.unlike)

-- four pixels stand at a place
pub record FourPixels (s : List ℕ) (at a b c d : ℕ) : Type 0 where
  pub nw : Stands s at a
  pub ne : Stands s (at + 3) b
  pub sw : Stands s (at + 3 + 3) c
  pub se : Stands s (at + 3 + 3 + 3) d
  pub types : Types a b c d

pixel_at : (s : List ℕ) (at k : ℕ) → Stands s at k → k ≤ top_colour → block_at s 0 at ≡ got (at + 3) (leaf k)
unfolding block_at
pixel_at s at k h le = record_leaf s at _ k h le

-- they are read
pixels_end : (s : List ℕ) (at a b c d : ℕ) → FourPixels s at a b c d → Some (at + 12) ≡ place_after (four_at (block_at s 0) at)
unfolding colour Coloured
pixels_end s at a b c d h =
    let ea = pixel_at s at a h.nw h.types.nw in
    let eb = pixel_at s (at + 3) b h.ne h.types.ne in
    let ec = pixel_at s (at + 3 + 3) c h.sw h.types.sw in
    let ed = pixel_at s (at + 3 + 3 + 3) d h.se h.types.se in
    let un : alike (leaf a) (leaf b) (leaf c) (leaf d) ≡ false = alike_types (leaf a) (leaf b) (leaf c) (leaf d) h.types.nw ∙ h.types.unlike in
    let e : at + 12 ≡ at + 3 + 3 + 3 + 3 = omega arith in
    rw (ea, eb, ec, ed, un) (ap (λ (i : ℕ). Some i) e)

-- and nothing else is
pub record Pixel (s : List ℕ) (at i : ℕ) (t : Tree) : Type 0 where
  pub is : t ≡ leaf (colour t)
  pub next : i ≡ at + 3
  pub stands : Stands s at (colour t)
  pub coloured : Coloured t
  pub low : colour t ≤ top_colour

pub pixel_of : (s : List ℕ) (at i : ℕ) (t : Tree) → block_at s 0 at ≡ got i t → Pixel s at i t
unfolding Coloured size_of
pixel_of s at i t e =
    let h = block_spells s 0 at i t e in
    let is : t ≡ leaf (colour t) = within_zero t h.sound.within in
    let one : size_of t ≡ 1 = ap size_of is in
    let co : Coloured (leaf (colour t)) = rw is at h.sound.coloured in
    record { is = is; next = omega (arith, h.next, one); stands = root_kind s at t h.spelt; coloured = h.sound.coloured; low = co }

none_after : (g : Got) (f : ℕ → Tree → Got) → ((i : ℕ) (t : Tree) → g ≡ got i t → None ≡ place_after (f i t)) → None ≡ place_after (onward g f)
none_after (got i t) f h = h i t refl
none_after (bad o) f h = refl

pixels_none : (s : List ℕ) (at : ℕ) → ((a b c d : ℕ) → FourPixels s at a b c d → ⊥) → None ≡ place_after (four_at (block_at s 0) at)
pixels_none s at non =
    none_after (block_at s 0 at) _ (λ i a ea. none_after (block_at s 0 i) _ (λ j b eb. none_after (block_at s 0 j) _ (λ k c ec. none_after (block_at s 0 k) _ (λ m d ed.
    cond_case (λ (g : Got). None ≡ place_after g) (alike a b c d) (bad (NeedlessFork (k + 2))) (got m (fork a b c d)) (λ _. refl) (λ un.
    let pa = pixel_of s at i a ea in
    let pb = pixel_of s i j b eb in
    let pc = pixel_of s j k c ec in
    let pd = pixel_of s k m d ed in
    absurd (non (colour a) (colour b) (colour c) (colour d) (record {
      nw = pa.stands;
      ne = rw pa.next at pb.stands;
      sw = rw (pb.next, pa.next) at pc.stands;
      se = rw (pc.next, pb.next, pa.next) at pd.stands;
      types = record { nw = pa.low; ne = pb.low; sw = pc.low; se = pd.low; unlike = sym (alike_types a b c d pa.coloured) ∙ un };
    })))))))

-- the marks in each of three numbers of four bytes, 0 standing for each type
abbrev first_marked : ℕ
first_marked = mark + 256 * node_mark + 16777216 * mark

abbrev second_marked : ℕ
second_marked = node_mark + 65536 * mark + 16777216 * node_mark

abbrev third_marked : ℕ
third_marked = 256 * mark + 65536 * node_mark

-- four bytes by their number: its types, and its other bytes where they are marks
module _ (b₀ b₁ b₂ b₃ v : ℕ) (h₀ : b₀ < 256) (h₁ : b₁ < 256) (h₂ : b₂ < 256) (h₃ : b₃ < 256) (is : v ≡ b₀ + 256 * b₁ + 65536 * b₂ + 16777216 * b₃) where
  first_type : (k : ℕ) → k ≡ v / 65536 % 256 → b₂ ≡ k
  first_type k e = omega arith

  pub first_marks_lem : (k : ℕ) → k ≡ v / 65536 % 256 → v ≡ first_marked + 65536 * k → (b₀ ≡ mark) × (b₁ ≡ node_mark) × (b₃ ≡ mark)
  first_marks_lem k e f = (omega arith, omega arith, omega arith)

  pub second_marks_lem : (k : ℕ) → k ≡ v / 256 % 256 → v ≡ second_marked + 256 * k → (b₀ ≡ node_mark) × (b₂ ≡ mark) × (b₃ ≡ node_mark)
  second_marks_lem k e f = (omega arith, omega arith, omega arith)

  pub third_marks_lem : (k m : ℕ) → k ≡ v % 256 → m ≡ v / 16777216 → v ≡ third_marked + k + 16777216 * m → (b₁ ≡ mark) × (b₂ ≡ node_mark)
  third_marks_lem k m e f g =
      let t : (b₀ ≡ k) × (b₃ ≡ m) = (omega arith, omega arith) in
      let u : b₁ + 256 * b₂ ≡ mark + 256 * node_mark = omega (arith, t.0, t.1) in
      (omega arith, omega arith)

-- twelve bytes, as three numbers: each with its marks, and with the types as they are
module _ (s : List ℕ) (at : ℕ) where
  byte : (i j : ℕ) → i ≡ j → get_or s i 0 ≡ get_or s j 0
  byte i j e = ap (λ (x : ℕ). get_or s x 0) e

  pub short_none : length s - at < 12 → None ≡ place_after (four_at (block_at s 0) at)
  short_none lt = pixels_none s at (λ a b c d h. omega (arith, h.se.fits))

  module _ (u r : ℕ) (f : FourBytes s at u) (e : r ≡ from_le_bytes w32 (mark ∷ node_mark ∷ get_or s (at + 2) 0 ∷ mark ∷ [])) where
    pub first_none : (u ≡ r → ⊥) → None ≡ place_after (four_at (block_at s 0) at)
    first_none ne = pixels_none s at (λ a b c d h. ne (omega (arith, f.is, e, h.nw.first, h.nw.second, h.ne.first)))

    first_marks : u ≡ r → (get_or s at 0 ≡ mark) × (get_or s (at + 1) 0 ≡ node_mark) × (get_or s (at + 3) 0 ≡ mark)
    first_marks g =
        let i = f.is in
        let b₀ = f.first in
        let b₁ = f.second in
        let b₃ = f.fourth in
        (omega arith, omega arith, omega arith)

  module _ (u r : ℕ) (f : FourBytes s (at + 4) u) (e : r ≡ from_le_bytes w32 (node_mark ∷ get_or s (at + 5) 0 ∷ mark ∷ node_mark ∷ [])) where
    pub second_none : (u ≡ r → ⊥) → None ≡ place_after (four_at (block_at s 0) at)
    second_none ne =
        pixels_none s at (λ a b c d h. ne (omega (
          arith,
          f.is,
          e,
          byte (at + 4) (at + 3 + 1) (omega arith),
          byte (at + 4 + 1) (at + 5) (omega arith),
          byte (at + 4 + 2) (at + 3 + 3) (omega arith),
          byte (at + 4 + 3) (at + 3 + 3 + 1) (omega arith),
          h.ne.second,
          h.sw.first,
          h.sw.second,
        )))

    second_marks : u ≡ r → (get_or s (at + 4) 0 ≡ node_mark) × (get_or s (at + 4 + 2) 0 ≡ mark) × (get_or s (at + 4 + 3) 0 ≡ node_mark)
    second_marks g =
        let i = f.is in
        let k = byte (at + 4 + 1) (at + 5) (omega arith) in
        let b₀ = f.first in
        let b₂ = f.third in
        let b₃ = f.fourth in
        (omega arith, omega arith, omega arith)

  module _ (u r : ℕ) (f : FourBytes s (at + 8) u) (e : r ≡ from_le_bytes w32 (get_or s (at + 8) 0 ∷ mark ∷ node_mark ∷ get_or s (at + 11) 0 ∷ [])) where
    pub third_none : (u ≡ r → ⊥) → None ≡ place_after (four_at (block_at s 0) at)
    third_none ne =
        pixels_none s at (λ a b c d h. ne (omega (
          arith,
          f.is,
          e,
          byte (at + 8 + 1) (at + 3 + 3 + 3) (omega arith),
          byte (at + 8 + 2) (at + 3 + 3 + 3 + 1) (omega arith),
          byte (at + 8 + 3) (at + 11) (omega arith),
          h.se.first,
          h.se.second,
        )))

    third_marks : u ≡ r → (get_or s (at + 8 + 1) 0 ≡ mark) × (get_or s (at + 8 + 2) 0 ≡ node_mark)
    third_marks g =
        let i = f.is in
        let k = byte (at + 8 + 3) (at + 11) (omega arith) in
        let b₁ = f.second in
        let b₂ = f.third in
        (omega arith, omega arith)

  -- the type of the first pixel, in the number of its four bytes
  pub type_nw : (u a : ℕ) → FourBytes s at u → a ≡ u / 65536 % 256 → get_or s (at + 2) 0 ≡ a
  type_nw u a f e = first_type _ _ _ _ u f.first f.second f.third f.fourth f.is a e

  -- the types are the bytes'
  module _ (a b c d : ℕ) (ea : a ≡ get_or s (at + 2) 0) (eb : b ≡ get_or s (at + 5) 0) (ec : c ≡ get_or s (at + 8) 0) (ed : d ≡ get_or s (at + 11) 0) where
    type_ne : get_or s (at + 3 + 2) 0 ≡ b
    type_ne = byte (at + 3 + 2) (at + 5) (omega arith) ∙ sym eb

    type_sw : get_or s (at + 3 + 3 + 2) 0 ≡ c
    type_sw = byte (at + 3 + 3 + 2) (at + 8) (omega arith) ∙ sym ec

    type_se : get_or s (at + 3 + 3 + 3 + 2) 0 ≡ d
    type_se = byte (at + 3 + 3 + 3 + 2) (at + 11) (omega arith) ∙ sym ed

    types_none : (t : Bool) → t ≡ pixel_types a b c d → t ≡ false → None ≡ place_after (four_at (block_at s 0) at)
    types_none t e f =
        pixels_none s at (λ x y z w h.
        let p : a ≡ x = ea ∙ h.nw.kind in
        let q : b ≡ y = sym type_ne ∙ h.ne.kind in
        let r : c ≡ z = sym type_sw ∙ h.sw.kind in
        let o : d ≡ w = sym type_se ∙ h.se.kind in
        false≢true (sym f ∙ e ∙ rw (p, q, r, o) (types_told x y z w h.types)))

    pub pixels_there : (u v w x y z : ℕ) → FourBytes s at u → x ≡ from_le_bytes w32 (mark ∷ node_mark ∷ get_or s (at + 2) 0 ∷ mark ∷ []) → u ≡ x
        → FourBytes s (at + 4) v → y ≡ from_le_bytes w32 (node_mark ∷ get_or s (at + 5) 0 ∷ mark ∷ node_mark ∷ []) → v ≡ y
        → FourBytes s (at + 8) w → z ≡ from_le_bytes w32 (get_or s (at + 8) 0 ∷ mark ∷ node_mark ∷ get_or s (at + 11) 0 ∷ []) → w ≡ z
        → at + 12 ≤ length s → (t : Bool) → t ≡ pixel_types a b c d → place_after (four_at (block_at s 0) at) ≡ then_some t (at + 12)
    pixels_there u v w x y z fu ex gu fv ey gv fw ez gw le false e = sym (types_none false e refl)
    pixels_there u v w x y z fu ex gu fv ey gv fw ez gw le true e =
        let mu = first_marks u x fu ex gu in
        let mv = second_marks v y fv ey gv in
        let mw = third_marks w z fw ez gw in
        sym (pixels_end s at a b c d (record {
          nw = record { fits = omega arith; first = mu.0; second = mu.1; kind = sym ea };
          ne = record { fits = omega arith; first = mu.2; second = byte (at + 3 + 1) (at + 4) (omega arith) ∙ mv.0; kind = type_ne };
          sw = record {
            fits = omega arith;
            first = byte (at + 3 + 3) (at + 4 + 2) (omega arith) ∙ mv.1;
            second = byte (at + 3 + 3 + 1) (at + 4 + 3) (omega arith) ∙ mv.2;
            kind = type_sw;
          };
          se = record {
            fits = omega arith;
            first = byte (at + 3 + 3 + 3) (at + 8 + 1) (omega arith) ∙ mw.0;
            second = byte (at + 3 + 3 + 3 + 1) (at + 8 + 2) (omega arith) ∙ mw.1;
            kind = type_se;
          };
          types = types_are a b c d (sym e);
        }))
