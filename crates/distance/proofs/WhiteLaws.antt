-- A tree with no needless fork is one black leaf, or it has a white pixel: document 001's reason for Theorem 1, 'since
-- otherwise merging would have taken place'. It rests on there being two colours (`two_colours`).
use mathlib.Core.Bool.{false, false≢true}
use mathlib.Core.Logic.{◌⊎◌, inl, inr, ⊎_elim}
use mathlib.Core.Path.{◌≡◌, refl, ap, sym, ◌∙◌}
use Prim.Native.Nat.{ℕ, zero, suc, ◌+◌, ◌*◌, ◌/◌, ◌%◌, ◌^◌, ◌≤◌, ◌<◌}
use native.Mathlib.Nat.{eq-or-lt_of_le, le_of_suc-le-suc, mul-div_cancel}
use native.Mathlib.Omega.{arith}
use lib.Pow.{pow_pos}
use Rattle.quad.specs.Numbers.{white, black, top_colour}
use Rattle.quad.specs.Block.{quadrant_of}
use Rattle.quad.specs.Tree.{Tree, leaf, fork, son_of, shade, same_leaf, alike, Within, Reduced, Coloured}
use Rattle.quad.proofs.PathLaws.{shade_top, shade_leaf}
use Rattle.quad.proofs.TreeLaws.{each_son, four_sons_lem, within_son, reduced_son}
use Rattle.quad.proofs.PictureLaws.{block_up}

-- leaves are white or black
pub two_colours : (c : ℕ) → c ≤ top_colour → (c ≡ white) ⊎ (c ≡ black)
two_colours zero h = inl refl
two_colours (suc c) h = inr (omega arith)

-- the first of two for all below k, or the second for one of them
all_or_one : (P Q : ℕ → Type 0) (k : ℕ) → ((q : ℕ) → q < k → P q ⊎ Q q) → ((q : ℕ) → q < k → P q) ⊎ ((q : ℕ) × (q < k) × Q q)
all_or_one P Q zero h = inl (λ q l. absurd (omega arith))
all_or_one P Q (suc k) h =
    ⊎_elim
    (λ (a : (q : ℕ) → q < k → P q).
    ⊎_elim
    (λ (p : P k). inl (λ q l. ⊎_elim (λ (e : q ≡ k). rw e p) (λ (m : q < k). a q m) (eq-or-lt_of_le (le_of_suc-le-suc l))))
    (λ (p : Q k). inr (k, omega arith, p))
    (h k (omega arith)))
    (λ (o : (q : ℕ) × (q < k) × Q q). let l = o.1 in inr (o.0, omega arith, o.2))
    (all_or_one P Q k (λ q l. h q (omega arith)))

-- a white pixel of a tree of level l that stands for the block (X, Y)
pub record HasWhite (l : ℕ) (t : Tree) (X Y : ℕ) : Type 0 where
  pub x : ℕ
  pub y : ℕ
  pub column : x / 2 ^ l ≡ X
  pub row : y / 2 ^ l ≡ Y
  pub colour : shade l t x y ≡ white

white_up : (l : ℕ) (t : Tree) (X Y q : ℕ) → q < 4 → HasWhite l (son_of t q) (2 * X + q % 2) (2 * Y + q / 2) → HasWhite (suc l) t X Y
white_up l t X Y q q4 h =
    let ex = h.column in
    let ey = h.row in
    let e : quadrant_of (h.x / 2 ^ l) (h.y / 2 ^ l) ≡ q = omega arith in
    record {
      x = h.x;
      y = h.y;
      column = block_up l h.x X (q % 2) (omega arith) ex;
      row = block_up l h.y Y (q / 2) (omega arith) ey;
      colour = shade_top l t h.x h.y ∙ rw e h.colour;
    }

white_leaf : (l c X Y : ℕ) → c ≡ white → HasWhite l (leaf c) X Y
white_leaf l c X Y e =
    record {
      x = X * 2 ^ l;
      y = Y * 2 ^ l;
      column = mul-div_cancel X (pow_pos l);
      row = mul-div_cancel Y (pow_pos l);
      colour = shade_leaf l c (X * 2 ^ l) (Y * 2 ^ l) ∙ e;
    }

-- four black leaves are alike
black_alike : (a b c d : Tree) → alike a b c d ≡ false → (a ≡ leaf black) × (b ≡ leaf black) × (c ≡ leaf black) × (d ≡ leaf black) → ⊥
unfolding same_leaf
black_alike a b c d e h = false≢true (sym e ∙ rw (h.0, h.1, h.2, h.3))

-- one black leaf, or a white pixel
abbrev Told : ℕ → Tree → Type 0
Told l t = (X Y : ℕ) → Within l t → Reduced t → Coloured t → (t ≡ leaf black) ⊎ HasWhite l t X Y

leaf_told : (l c : ℕ) → Told l (leaf c)
unfolding Coloured
leaf_told l c X Y w r k = ⊎_elim (λ (e : c ≡ white). inr (white_leaf l c X Y e)) (λ (e : c ≡ black). inl (ap leaf e)) (two_colours c k)

told_up : (l : ℕ) → ((t : Tree) → Told l t) → (t : Tree) → Told (suc l) t
unfolding Reduced Coloured
told_up l ih (leaf c) X Y w r k = leaf_told (suc l) c X Y w r k
told_up l ih (fork a b c d) X Y w r k =
    let t : Tree = fork a b c d in
    ⊎_elim
    (λ (all : (q : ℕ) → q < 4 → son_of t q ≡ leaf black). absurd (black_alike a b c d r.0 (four_sons_lem (λ (u : Tree). u ≡ leaf black) all)))
    (λ (one : (q : ℕ) × (q < 4) × HasWhite l (son_of t q) (2 * X + q % 2) (2 * Y + q / 2)). inr (white_up l t X Y one.0 one.1 one.2))
    (all_or_one (λ (q : ℕ). son_of t q ≡ leaf black) (λ (q : ℕ). HasWhite l (son_of t q) (2 * X + q % 2) (2 * Y + q / 2)) 4
    (λ q q4. ih (son_of t q) (2 * X + q % 2) (2 * Y + q / 2) (within_son l t w q) (reduced_son t r q) (each_son Coloured k q)))

pub black_or_white : (l : ℕ) (t : Tree) → Told l t
unfolding Within
black_or_white zero (leaf c) X Y w r k = leaf_told 0 c X Y w r k
black_or_white zero (fork a b c d) X Y w r k = absurd w
black_or_white (suc l) t X Y w r k = told_up l (black_or_white l) t X Y w r k
