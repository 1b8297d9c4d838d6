-- Leaves that share a length of side: the one that is not larger has the other as its neighbour on that side, and as
-- the leaf at both ends of it.
use Rattle.std.specs.Prelude.{Ok}
use mathlib.Core.Bool.{true, false}
use mathlib.Core.List.{List}
use mathlib.Core.Logic.{◌⊎◌, inl, inr, ⊎_elim}
use mathlib.Core.Path.{◌≡◌, refl, ap, sym, ◌∙◌}
use Prim.Native.Nat.{ℕ, zero, suc, ◌+◌, ◌-◌, ◌*◌, ◌/◌, ◌%◌, ◌^◌, ◌≤◌, ◌<◌}
use native.Mathlib.Nat.{add-mul, div-div-eq-div-mul, div-add-mod', mod-lt, div-eq_of_lt-le}
use native.Mathlib.Omega.{arith}
use lib.Pow.{pow_pos, pow-lt}
use Rattle.base.proofs.BoolLaws.{lt_or_ge}
use Rattle.base.proofs.PowLaws.{pow_product, below_pow}
use Rattle.answer.specs.Numbers.{with_level}
use Rattle.quad.specs.Block.{path_of, column, row}
use Rattle.quad.specs.Direction.{east_step, south_step, adj_of}
use Rattle.quad.proofs.TreeLaws.{by_quadrant}
use Rattle.table.specs.Table.{is_fork}
use Rattle.table.specs.Rules.{depth_to, Accepted}
use Rattle.table.specs.Nodes.{path_to, holder, level_of, side_of}
use Rattle.table.proofs.AcceptedLaws.{depth_le}
use Rattle.table.proofs.BlockLaws.{column_below, row_below}
use Rattle.table.proofs.HolderLaws.{own_depth, within_leaf}
use Rattle.neighbour.specs.Neighbour.{neighbour_found, outcome_of, neighbour_of, corner_leaf_of, At}
use Rattle.neighbour.specs.Containing.{Contains, Touches}
use Rattle.neighbour.proofs.CornerLaws.{side_on, beyond_leaf_neighbour}
use Rattle.neighbour.proofs.NeighbourLaws.{lies_found, neighbour_is, corner_is}

-- the next column is in the same block of side w, or in the next one
next_div : (w x : ℕ) → 0 < w → ((x + 1) / w ≡ x / w) ⊎ ((x + 1) / w ≡ x / w + 1)
next_div w x pos =
    let q : ℕ = x / w in
    let r : x % w < w = mod-lt x pos in
    let e : q * w + x % w ≡ x = div-add-mod' x w in
    let a : (q + 1) * w ≡ q * w + 1 * w = add-mul q 1 w in
    let b : (q + 1 + 1) * w ≡ (q + 1) * w + 1 * w = add-mul (q + 1) 1 w in
    ⊎_elim
    (λ (l : x + 1 < (q + 1) * w). inl (div-eq_of_lt-le {k = q} w (omega arith) l))
    (λ (g : (q + 1) * w ≤ x + 1). inr (div-eq_of_lt-le {k = q + 1} w g (omega arith)))
    (lt_or_ge (x + 1) ((q + 1) * w))

-- one step along an axis stays in a block of side w, or leads to the one beside it
axis_step : (w x s : ℕ) → 0 < w → s ≤ 2 → 0 < x + s → ((x + s - 1) / w ≡ x / w) ⊎ ((x + s - 1) / w + 1 ≡ x / w + s)
axis_step w zero zero pos le h = absurd (omega arith)
axis_step w (suc x) zero pos le h =
    let e : suc x + 0 - 1 ≡ x = omega arith in
    let f : suc x ≡ x + 1 = omega arith in
    rw (e, f) (⊎_elim (λ (a : (x + 1) / w ≡ x / w). inl (sym a)) (λ (a : (x + 1) / w ≡ x / w + 1). inr (omega arith)) (next_div w x pos))
axis_step w x (suc zero) pos le h =
    let e : x + 1 - 1 ≡ x = omega arith in
    rw e (inl refl)
axis_step w x (suc (suc zero)) pos le h =
    let e : x + 2 - 1 ≡ x + 1 = omega arith in
    rw e (⊎_elim (λ (a : (x + 1) / w ≡ x / w). inl a) (λ (a : (x + 1) / w ≡ x / w + 1). inr (omega arith)) (next_div w x pos))
axis_step w x (suc (suc (suc s))) pos le h = absurd (omega arith)

-- a side goes along one axis
straight : (D : ℕ) → D < 4 → ((east_step D ≡ 1) × (south_step D ≤ 2)) ⊎ ((south_step D ≡ 1) × (east_step D ≤ 2))
unfolding east_step south_step
straight =
    by_quadrant (λ (D : ℕ). ((east_step D ≡ 1) × (south_step D ≤ 2)) ⊎ ((south_step D ≡ 1) × (east_step D ≤ 2)))
    (inl (refl, omega arith))
    (inr (refl, omega arith))
    (inl (refl, omega arith))
    (inr (refl, omega arith))

-- a block of blocks
rescale : (n d e x : ℕ) → e ≤ d → d ≤ n → x / 2 ^ (n - d) / 2 ^ (d - e) ≡ x / 2 ^ (n - e)
rescale n d e x le ld =
    let s : (n - d) + (d - e) ≡ n - e = omega arith in
    div-div-eq-div-mul x (2 ^ (n - d)) (2 ^ (d - e)) ∙ ap (λ (w : ℕ). x / w) (sym (pow_product (n - d) (d - e) (n - e) s))

module _ (n : ℕ) (T : List ℕ) (acc : Accepted n T) where
  -- what a node contains is on the sheet
  pub on_sheet : (m d x y : ℕ) → Contains n T m d x y → (x < 2 ^ d) × (y < 2 ^ d)
  on_sheet m d x y c =
      let i = c.inside in
      let e : ℕ = depth_to T n m in
      let s : e + (d - e) ≡ d = omega (arith, i.large) in (
        below_pow e (d - e) d x s (rw i.across (column_below n T acc m c.node)),
        below_pow e (d - e) d y s (rw i.down (row_below n T acc m c.node)),
      )

  -- a leaf that contains a block holds it
  pub leaf_holds : (m d x y : ℕ) → Contains n T m d x y → is_fork T m ≡ false → holder T (path_of d x y) ≡ m
  leaf_holds m d x y c f = within_leaf n T acc m d x y c.node f c.inside.large c.inside.across c.inside.down

-- two leaves, p and m, that share a length of p's side D, p being not the larger
module _
    (n : ℕ) (T : List ℕ) (acc : Accepted n T) (p m D x y : ℕ) (side : D < 4)
    (leaf-p : is_fork T p ≡ false) (leaf-m : is_fork T m ≡ false) (two : p ≡ m → ⊥)
    (t : Touches n T p m D x y) (size : side_of n T p ≤ side_of n T m) where
  shallow : depth_to T n m ≤ depth_to T n p
  shallow =
      ⊎_elim
      (λ (l : n - depth_to T n m < n - depth_to T n p). absurd (omega (arith, pow-lt {i = n - depth_to T n m} {j = n - depth_to T n p} l)))
      (λ (g : n - depth_to T n p ≤ n - depth_to T n m). omega (arith, depth_le T n m, depth_le T n p))
      (lt_or_ge (n - depth_to T n m) (n - depth_to T n p))

  -- the pixel beyond is none of p's
  apart : (x + east_step D - 1) / 2 ^ level_of n T p ≡ column (path_to T n p) → (y + south_step D - 1) / 2 ^ level_of n T p ≡ row (path_to T n p) → ⊥
  apart ex ey =
      let c : Contains n T p n (x + east_step D - 1) (y + south_step D - 1) =
      record { node = t.here.node; inside = record { large = t.here.inside.large; across = ex; down = ey } } in
      two
      (sym (leaf_holds n T acc p n (x + east_step D - 1) (y + south_step D - 1) c leaf-p)
      ∙ leaf_holds n T acc m n (x + east_step D - 1) (y + south_step D - 1) t.beyond leaf-m)

  -- so it lies in the block beside p's
  beside_block : ((x + east_step D - 1) / 2 ^ level_of n T p + 1 ≡ column (path_to T n p) + east_step D)
      × ((y + south_step D - 1) / 2 ^ level_of n T p + 1 ≡ row (path_to T n p) + south_step D)
  beside_block =
      let w : ℕ = 2 ^ level_of n T p in
      let hx : x / w ≡ column (path_to T n p) = t.here.inside.across in
      let hy : y / w ≡ row (path_to T n p) = t.here.inside.down in
      ⊎_elim
      (λ (e : (east_step D ≡ 1) × (south_step D ≤ 2)).
      let still : x + east_step D - 1 ≡ x = omega (arith, e.0) in
      let ex : (x + east_step D - 1) / w ≡ column (path_to T n p) = ap (λ (z : ℕ). z / w) still ∙ hx in (
        omega (arith, e.0),
        ⊎_elim
            (λ (s : (y + south_step D - 1) / w ≡ y / w). absurd (apart ex (s ∙ hy)))
            (λ (s : (y + south_step D - 1) / w + 1 ≡ y / w + south_step D). omega arith)
            (axis_step w y (south_step D) (pow_pos (level_of n T p)) e.1 t.south),
      ))
      (λ (e : (south_step D ≡ 1) × (east_step D ≤ 2)).
      let still : y + south_step D - 1 ≡ y = omega (arith, e.0) in
      let ey : (y + south_step D - 1) / w ≡ row (path_to T n p) = ap (λ (z : ℕ). z / w) still ∙ hy in (
        ⊎_elim
            (λ (s : (x + east_step D - 1) / w ≡ x / w). absurd (apart (s ∙ hx) ey))
            (λ (s : (x + east_step D - 1) / w + 1 ≡ x / w + east_step D). omega arith)
            (axis_step w x (east_step D) (pow_pos (level_of n T p)) e.1 t.east),
        omega (arith, e.0),
      ))
      (straight D side)

  beside_m : neighbour_found n T p D ≡ At m (level_of n T m)
  unfolding neighbour_found
  beside_m =
      let d : ℕ = depth_to T n p in
      let w : ℕ = 2 ^ level_of n T p in
      let b = beside_block in
      let i = t.beyond.inside in
      let ex : column (path_to T n p) + east_step D - 1 ≡ (x + east_step D - 1) / w = omega (arith, b.0) in
      let ey : row (path_to T n p) + south_step D - 1 ≡ (y + south_step D - 1) / w = omega (arith, b.1) in
      let c : Contains n T m d ((x + east_step D - 1) / w) ((y + south_step D - 1) / w) =
      record {
        node = t.beyond.node;
        inside = record {
          large = shallow;
          across = rescale n d (depth_to T n m) (x + east_step D - 1) shallow (depth_le T n p) ∙ i.across;
          down = rescale n d (depth_to T n m) (y + south_step D - 1) shallow (depth_le T n p) ∙ i.down;
        };
      } in
      let s = on_sheet n T acc m d ((x + east_step D - 1) / w) ((y + south_step D - 1) / w) c in
      let a = lies_found n T d (column (path_to T n p)) (row (path_to T n p)) D
      (record { low = omega (arith, b.0); high = omega (arith, b.0, s.0) })
      (record { low = omega (arith, b.1); high = omega (arith, b.1, s.1) }) in
      rw (own_depth n T acc p t.here.node) (a ∙ rw (ex, ey) (ap (λ (m : ℕ). At m (level_of n T m)) (leaf_holds n T acc m d ((x + east_step D - 1) / w) ((y + south_step D - 1) / w) c leaf-m)))

  -- m is p's neighbour on that side
  pub touching_neighbour : neighbour_of n T p D ≡ Ok (with_level m (level_of n T m))
  touching_neighbour = neighbour_is n T acc p t.here.node D (omega arith) ∙ ap outcome_of beside_m

  -- and the leaf at both ends of it
  pub touching_corners : (C : ℕ) → C < 4 → adj_of D C ≡ true → corner_leaf_of n T p D C ≡ Ok (with_level m (level_of n T m))
  touching_corners C corner a =
      corner_is n T acc p t.here.node D C side corner a
      ∙ ap outcome_of
      (beyond_leaf_neighbour n T p D C
      (record { accepted = acc; node = t.here.node; way = omega arith; corner = corner; on = side_on D C side a })
      m
      (level_of n T m)
      leaf-m
      beside_m)
