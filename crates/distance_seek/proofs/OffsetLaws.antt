-- What the search finds under a node, told by pixels: no white pixel of the block has a lesser offset, and a white
-- pixel has that offset, or none is white.
use mathlib.Core.Bool.{true, false, cond}
use mathlib.Core.List.{List}
use mathlib.Core.Logic.{◌⊎◌, inl, inr, ⊎_elim}
use mathlib.Core.Path.{◌≡◌, refl, ap, sym, ◌∙◌}
use Prim.Native.Nat.{ℕ, zero, suc, ◌+◌, ◌-◌, ◌*◌, ◌/◌, ◌%◌, ◌^◌, ◌≤◌, ◌<◌, max}
use native.Mathlib.Nat.{pow-succ', le_trans, mod-lt, max-le, le-max_left, le-max_right}
use native.Mathlib.Omega.{arith}
use lib.Dec.{eqb}
use lib.Pow.{pow_pos, mod-pow-add, high, low}
use borrow.Author.Tests.{eq-eqb, ne_eqb, eqb-true}
use Rattle.base.specs.Tab.{least}
use Rattle.base.proofs.BoolLaws.{by_bool}
use Rattle.base.proofs.LeastLaws.{Hit, least_le, least_hit}
use Rattle.quad.specs.Numbers.{white, none}
use Rattle.quad.specs.Block.{quadrant_of}
use Rattle.quad.specs.Tree.{Tree, shade}
use Rattle.quad.proofs.PathLaws.{shade_top, shade_leaf}
use Rattle.quad.proofs.PictureLaws.{block_up}
use Rattle.table.specs.Table.{son, node_type, is_fork}
use Rattle.table.specs.Nodes.{tree_at}
use Rattle.table.proofs.AcceptedLaws.{tree_zero, tree_leaf}
use Rattle.table.proofs.PictureLaws.{tree_son}
use Rattle.distance_seek.specs.Search.{farther_by, leaf_offset, offset_under, offset_in}
use Rattle.distance_seek.proofs.SearchLaws.{offset_leaf, offset_zero, offset_fork}

-- the offset of the m-th column (or row) of a block of side w
abbrev pub offset_of : ℕ → ℕ → ℕ → ℕ
offset_of step w m = cond (eqb step 0) (w - 1 - m) (cond (eqb step 1) 0 m)

-- the offset of column (or row) x in its block of level l
unfoldable pub pixel_offset : ℕ → ℕ → ℕ → ℕ
pixel_offset step l x = offset_of step (2 ^ l) (x % 2 ^ l)

pub offset_lt : (step l x : ℕ) → pixel_offset step l x < 2 ^ l
unfolding pixel_offset
offset_lt zero l x = omega (arith, pow_pos l)
offset_lt (suc zero) l x = omega (arith, pow_pos l)
offset_lt (suc (suc k)) l x = rw (ne_eqb (suc (suc k)) 0 (λ e. omega arith), ne_eqb (suc (suc k)) 1 (λ e. omega arith)) (mod-lt x (pow_pos l))

-- a block of twice the side: the half, and the place in the half
offset_half : (step half w m : ℕ) → half < 2 → m < w → offset_of step (2 * w) (half * w + m) ≡ farther_by step half w + offset_of step w m
unfolding farther_by
offset_half zero zero w m h l = omega arith
offset_half zero (suc zero) w m h l = omega arith
offset_half (suc zero) half w m h l = refl
offset_half (suc (suc k)) zero w m h l =
    rw (ne_eqb (suc (suc k)) 0 (λ e. omega arith), ne_eqb (suc (suc k)) 1 (λ e. omega arith)) (omega arith)
offset_half (suc (suc k)) (suc zero) w m h l =
    rw (ne_eqb (suc (suc k)) 0 (λ e. omega arith), ne_eqb (suc (suc k)) 1 (λ e. omega arith)) (omega arith)
offset_half zero (suc (suc j)) w m h l = absurd (omega arith)
offset_half (suc (suc k)) (suc (suc j)) w m h l = absurd (omega arith)

pub offset_up : (step l x : ℕ) → pixel_offset step (suc l) x ≡ farther_by step (x / 2 ^ l % 2) (2 ^ l) + pixel_offset step l x
unfolding pixel_offset
offset_up step l x =
    let e : 1 + l ≡ suc l = omega arith in
    let m : x % 2 ^ suc l ≡ x / 2 ^ l % 2 * 2 ^ l + x % 2 ^ l = rw e at (mod-pow-add x 1 l) in
    rw (m, pow-succ' 2 l) (offset_half step (x / 2 ^ l % 2) (2 ^ l) (x % 2 ^ l) (omega arith) (mod-lt x (pow_pos l)))

-- a column of the block X at the near edge
pub record Edge (step l X : ℕ) : Type 0 where
  pub x : ℕ
  pub block : x / 2 ^ l ≡ X
  pub near : pixel_offset step l x ≡ 0

pub edge : (step l X : ℕ) → Edge step l X
unfolding pixel_offset
edge zero l X =
    let w = pow_pos l in
    let lt : 2 ^ l - 1 < 2 ^ l = omega arith in
    record { x = X * 2 ^ l + (2 ^ l - 1); block = high X l lt; near = rw (low X l lt) (omega arith) }
edge (suc zero) l X = record { x = X * 2 ^ l + 0; block = high X l (pow_pos l); near = refl }
edge (suc (suc k)) l X =
    record {
      x = X * 2 ^ l + 0;
      block = high X l (pow_pos l);
      near = rw (ne_eqb (suc (suc k)) 0 (λ e. omega arith), ne_eqb (suc (suc k)) 1 (λ e. omega arith)) (low X l (pow_pos l));
    }

max_mono : {a b c d : ℕ} → a ≤ c → b ≤ d → max a b ≤ max c d
max_mono {a} {b} {c} {d} h k = max-le (le_trans h (le-max_left c d)) (le_trans k (le-max_right c d))

module _ (T : List ℕ) where
  -- the colour of pixel (x, y) under node p of level l
  abbrev pub hue : ℕ → ℕ → ℕ → ℕ → ℕ
  hue l p x y = shade l (tree_at T l p) x y

  pub hue_leaf : (l p x y : ℕ) → is_fork T p ≡ false → hue l p x y ≡ node_type T p
  hue_leaf l p x y f = rw (tree_leaf T l p f) (shade_leaf l (node_type T p) x y)

  pub hue_zero : (p x y : ℕ) → hue 0 p x y ≡ node_type T p
  hue_zero p x y = rw (tree_zero T p) (shade_leaf 0 (node_type T p) x y)

  pub hue_fork : (l p x y : ℕ) → is_fork T p ≡ true → hue (suc l) p x y ≡ hue l (son T p (quadrant_of (x / 2 ^ l) (y / 2 ^ l))) x y
  hue_fork l p x y f =
      shade_top l (tree_at T (suc l) p) x y
      ∙ ap (λ (t : Tree). shade l t x y) (tree_son T l p (quadrant_of (x / 2 ^ l) (y / 2 ^ l)) (omega arith) ∙ rw f)

  module _ (east south : ℕ) where
    -- the offset of pixel (x, y) in a block of level l whose near edges lie at a and b
    abbrev pub reach : ℕ → ℕ → ℕ → ℕ → ℕ → ℕ
    reach l a b x y = max (a + pixel_offset east l x) (b + pixel_offset south l y)

    leaf_le : (l p a b x y : ℕ) → node_type T p ≡ white → leaf_offset (node_type T p) a b ≤ reach l a b x y
    leaf_le l p a b x y e = rw (eq-eqb (node_type T p) white e) (max_mono (omega arith) (omega arith))

    -- no white pixel is nearer
    pub offset_le : (l p a b x y : ℕ) → hue l p x y ≡ white → offset_under T east south l p a b ≤ reach l a b x y
    offset_le zero p a b x y h = rw (offset_zero T east south p a b) (leaf_le 0 p a b x y (sym (hue_zero p x y) ∙ h))
    offset_le (suc l) p a b x y h =
        ⊎_elim
        (λ (f : is_fork T p ≡ true).
        let q : ℕ = quadrant_of (x / 2 ^ l) (y / 2 ^ l) in
        let u : q % 2 ≡ x / 2 ^ l % 2 = omega arith in
        let v : q / 2 ≡ y / 2 ^ l % 2 = omega arith in
        let ih = offset_le l (son T p q) (a + farther_by east (q % 2) (2 ^ l)) (b + farther_by south (q / 2) (2 ^ l)) x y (sym (hue_fork l p x y f) ∙ h) in
        rw (offset_fork T east south l p a b f)
        (le_trans (least_le none (offset_in T east south l p a b) 4 q (omega arith))
        (le_trans ih (max_mono (omega (arith, offset_up east l x, ap (λ (k : ℕ). farther_by east k (2 ^ l)) u)) (omega (arith, offset_up south l y, ap (λ (k : ℕ). farther_by south k (2 ^ l)) v))))))
        (λ (f : is_fork T p ≡ false). rw (offset_leaf T east south (suc l) p a b f) (leaf_le (suc l) p a b x y (sym (hue_leaf (suc l) p x y f) ∙ h)))
        (by_bool (is_fork T p))

    -- a white pixel of the block (X, Y) at offset v
    pub record Reached (l p a b X Y v : ℕ) : Type 0 where
      pub x : ℕ
      pub y : ℕ
      pub column : x / 2 ^ l ≡ X
      pub row : y / 2 ^ l ≡ Y
      pub colour : hue l p x y ≡ white
      pub far : reach l a b x y ≡ v

    leaf_hit : (l p a b X Y : ℕ) → ((x y : ℕ) → hue l p x y ≡ node_type T p) → (leaf_offset (node_type T p) a b ≡ none) ⊎ Reached l p a b X Y (leaf_offset (node_type T p) a b)
    leaf_hit l p a b X Y h =
        ⊎_elim
        (λ (e : eqb (node_type T p) white ≡ true).
        let i = edge east l X in
        let j = edge south l Y in
        let ea : a + pixel_offset east l i.x ≡ a = omega (arith, i.near) in
        let eb : b + pixel_offset south l j.x ≡ b = omega (arith, j.near) in
        inr (record { x = i.x; y = j.x; column = i.block; row = j.block; colour = h i.x j.x ∙ eqb-true (node_type T p) white e; far = rw (ea, eb, e) }))
        (λ (e : eqb (node_type T p) white ≡ false). inl (rw e))
        (by_bool (eqb (node_type T p) white))

    -- a pixel of quarter q is a pixel of the block
    reached_up : (l p a b X Y q v : ℕ) → is_fork T p ≡ true → q < 4
        → Reached l (son T p q) (a + farther_by east (q % 2) (2 ^ l)) (b + farther_by south (q / 2) (2 ^ l)) (2 * X + q % 2) (2 * Y + q / 2) v
        → Reached (suc l) p a b X Y v
    reached_up l p a b X Y q v f q4 r =
        let ex = r.column in
        let ey = r.row in
        let u : r.x / 2 ^ l % 2 ≡ q % 2 = omega arith in
        let w : r.y / 2 ^ l % 2 ≡ q / 2 = omega arith in
        let eq : quadrant_of (r.x / 2 ^ l) (r.y / 2 ^ l) ≡ q = omega arith in
        let ea : a + pixel_offset east (suc l) r.x ≡ a + farther_by east (q % 2) (2 ^ l) + pixel_offset east l r.x =
        omega (arith, offset_up east l r.x, ap (λ (k : ℕ). farther_by east k (2 ^ l)) u) in
        let eb : b + pixel_offset south (suc l) r.y ≡ b + farther_by south (q / 2) (2 ^ l) + pixel_offset south l r.y =
        omega (arith, offset_up south l r.y, ap (λ (k : ℕ). farther_by south k (2 ^ l)) w) in
        record {
          x = r.x;
          y = r.y;
          column = block_up l r.x X (q % 2) (omega arith) ex;
          row = block_up l r.y Y (q / 2) (omega arith) ey;
          colour = hue_fork l p r.x r.y f ∙ rw eq r.colour;
          far = rw (ea, eb) r.far;
        }

    pub offset_hit : (l p a b X Y : ℕ) → (offset_under T east south l p a b ≡ none) ⊎ Reached l p a b X Y (offset_under T east south l p a b)
    offset_hit zero p a b X Y = rw (offset_zero T east south p a b) (leaf_hit 0 p a b X Y (hue_zero p))
    offset_hit (suc l) p a b X Y =
        ⊎_elim
        (λ (f : is_fork T p ≡ true).
        let F : ℕ → ℕ = offset_in T east south l p a b in
        let v : ℕ = least none F 4 in
        rw (offset_fork T east south l p a b f)
        (⊎_elim inl
        (λ (h : Hit none F 4 v).
        let q : ℕ = h.at in
        ⊎_elim
        (λ (e : F q ≡ none). inl (sym h.value ∙ e))
        (λ (r : Reached l (son T p q) (a + farther_by east (q % 2) (2 ^ l)) (b + farther_by south (q / 2) (2 ^ l)) (2 * X + q % 2) (2 * Y + q / 2) (F q)).
        inr (reached_up l p a b X Y q v f h.below (rw h.value at r)))
        (offset_hit l (son T p q) (a + farther_by east (q % 2) (2 ^ l)) (b + farther_by south (q / 2) (2 ^ l)) (2 * X + q % 2) (2 * Y + q / 2)))
        (least_hit none F 4)))
        (λ (f : is_fork T p ≡ false). rw (offset_leaf T east south (suc l) p a b f) (leaf_hit (suc l) p a b X Y (λ x y. hue_leaf (suc l) p x y f)))
        (by_bool (is_fork T p))
