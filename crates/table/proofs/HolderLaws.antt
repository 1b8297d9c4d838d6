-- Where the node that holds a block stands in an accepted table: it is no deeper than the block, a fork only at the
-- block's own depth, and its path is the upper end of the block's path.
use mathlib.Core.Bool.{true, false, true≢false}
use mathlib.Core.List.{List, [], ◌∷◌}
use mathlib.Core.Logic.{⊎_elim}
use mathlib.Core.Path.{◌≡◌, refl, ap, sym, ◌∙◌}
use Prim.Native.Nat.{ℕ, zero, suc, ◌-◌, ◌/◌, ◌^◌, ◌≤◌, ◌<◌}
use native.Mathlib.Omega.{arith}
use lib.ListN.{length, drop}
use Rattle.base.proofs.BoolLaws.{by_bool}
use Rattle.quad.specs.Block.{Quadrants, path_of, column, row}
use Rattle.quad.proofs.PathLaws.{path_length, path_quadrants, path_column, path_row, path_back}
use Rattle.quad.proofs.UpperLaws.{column_drop, row_drop, path_drop}
use Rattle.table.specs.Table.{nodes, father, son, is_fork}
use Rattle.table.specs.Rules.{depth_to, Accepted}
use Rattle.table.specs.Nodes.{son_type, path_to, holder, Real}
use Rattle.table.proofs.RuleLaws.{depth_root}
use Rattle.table.proofs.AcceptedLaws.{father_below, sons_of, son_type_lt, son_son_type, son_type_only, father_fork, depth_le, depth_up, depth_son}
use Rattle.table.proofs.NodeLaws.{path_root, holder_root, holder_fork, holder_leaf, real_quadrants, path_of_lem, node_at}

-- what is known of the node that holds the block at the end of π
pub record Held (n : ℕ) (T : List ℕ) (π : List ℕ) : Type 0 where
  pub below : holder T π < nodes T
  pub shallow : depth_to T n (holder T π) ≤ length π
  pub full : is_fork T (holder T π) ≡ true → depth_to T n (holder T π) ≡ length π
  pub path : path_to T n (holder T π) ≡ drop (length π - depth_to T n (holder T π)) π

module _ (n : ℕ) (T : List ℕ) (acc : Accepted n T) where
  -- a node's path: its own quadrant, then its father's path
  pub path_up : (p : ℕ) → p < nodes T → 0 < p → path_to T n p ≡ son_type T p ∷ path_to T n (father T p)
  unfolding Real
  path_up p lt pos =
      let f : ℕ = father T p in
      let π = path_to T n f in
      let a = path_of_lem n T acc f (omega (arith, father_below n T acc p lt pos)) in
      let k : is_fork T (holder T π) ≡ true = rw a.ends (father_fork n T acc p lt pos) in
      let ends : holder T (son_type T p ∷ π) ≡ p = holder_fork T (son_type T p) π k ∙ rw a.ends (son_son_type n T acc p lt pos) in
      let fits : suc (length π) ≤ n = omega (arith, a.size, depth_up n T acc p lt pos, depth_le T n p) in
      rw ends at ((node_at n T acc (son_type T p ∷ π) (son_type_lt n T acc p lt pos, k, a.real)).back n fits)

  -- a node's path is of quadrants
  pub own_quadrants : (p : ℕ) → p < nodes T → Quadrants (path_to T n p)
  own_quadrants p lt = real_quadrants T (path_to T n p) (path_of_lem n T acc p lt).real

  -- a son's path: its quadrant, then the fork's path
  pub path_son : (p q : ℕ) → p < nodes T → is_fork T p ≡ true → q < 4 → path_to T n (son T p q) ≡ q ∷ path_to T n p
  path_son p q lt f q4 =
      let i = sons_of n T acc p lt f q q4 in
      let s : ℕ = son T p q in
      let pos : 0 < s = omega (arith, i.above) in
      let t : q ≡ son_type T s = son_type_only n T acc s q i.below pos q4 (ap (λ (f : ℕ). son T f q) i.up) in
      rw (path_up s i.below pos, ← t, i.up)

  under_fork : (q : ℕ) (qs : List ℕ) → q < 4 → Held n T qs → is_fork T (holder T qs) ≡ true → Held n T (q ∷ qs)
  under_fork q qs q4 ih f =
      let p : ℕ = holder T qs in
      let e = holder_fork T q qs f in
      let d : depth_to T n (son T p q) ≡ suc (length qs) = depth_son n T acc p q ih.below f q4 ∙ ap suc (ih.full f) in
      let z : suc (length qs) - depth_to T n (son T p q) ≡ 0 = omega arith in
      let y : length qs - depth_to T n p ≡ 0 = omega (arith, ih.full f) in
      let w : path_to T n p ≡ qs = rw y at ih.path in
      record {
        below = rw e (sons_of n T acc p ih.below f q q4).below;
        shallow = rw e (omega arith);
        full = λ g. rw e d;
        path = rw e (rw (z, path_son p q ih.below f q4, w));
      }

  under_leaf : (q : ℕ) (qs : List ℕ) → Held n T qs → is_fork T (holder T qs) ≡ false → Held n T (q ∷ qs)
  under_leaf q qs ih f =
      let e = holder_leaf T q qs f in
      let le = ih.shallow in
      let z : suc (length qs) - depth_to T n (holder T qs) ≡ suc (length qs - depth_to T n (holder T qs)) = omega arith in
      record {
        below = rw e ih.below;
        shallow = rw e (omega arith);
        full = λ g. absurd (true≢false (sym (rw e at g) ∙ f));
        path = rw e (rw z ih.path);
      }

  pub held : (π : List ℕ) → Quadrants π → Held n T π
  unfolding Quadrants
  held [] h =
      let r = holder_root T in
      let z : 0 - depth_to T n 0 ≡ 0 = omega (arith, depth_root T n) in
      record {
        below = rw r acc.sized.some;
        shallow = rw r (omega (arith, depth_root T n));
        full = λ g. rw r (depth_root T n);
        path = rw r (rw z (path_root T n));
      }
  held (q ∷ qs) h =
      let ih = held qs h.1 in
      ⊎_elim (under_fork q qs h.0 ih) (under_leaf q qs ih) (by_bool (is_fork T (holder T qs)))

  -- the block (x, y) of depth d lies in the block of the node that holds it, by column and row
  pub held_inside : (d x y : ℕ) → x < 2 ^ d → y < 2 ^ d
      → (column (path_to T n (holder T (path_of d x y))) ≡ x / 2 ^ (d - depth_to T n (holder T (path_of d x y))))
      × (row (path_to T n (holder T (path_of d x y))) ≡ y / 2 ^ (d - depth_to T n (holder T (path_of d x y))))
  held_inside d x y hx hy =
      let π = path_of d x y in
      let z = path_quadrants d x y in
      let k : ℕ = d - depth_to T n (holder T π) in
      let e : path_to T n (holder T π) ≡ drop k π = (held π z).path ∙ ap (λ (l : ℕ). drop (l - depth_to T n (holder T π)) π) (path_length d x y) in
      (ap column e ∙ (column_drop k π ∙ rw (path_column d x y hx)), ap row e ∙ (row_drop k π z ∙ rw (path_row d x y hy)))

  -- the node at the end of its own path
  pub own_path : (p : ℕ) → p < nodes T → holder T (path_to T n p) ≡ p
  own_path p lt = (path_of_lem n T acc p lt).ends

  pub own_depth : (p : ℕ) → p < nodes T → length (path_to T n p) ≡ depth_to T n p
  own_depth p lt = (path_of_lem n T acc p lt).size

  -- where the holder of a larger block is a leaf, it holds the smaller one too
  upper_leaf : (k : ℕ) (π : List ℕ) → is_fork T (holder T (drop k π)) ≡ false → holder T π ≡ holder T (drop k π)
  upper_leaf zero π f = refl
  upper_leaf (suc k) [] f = refl
  upper_leaf (suc k) (q ∷ qs) f =
      let ih = upper_leaf k qs f in
      holder_leaf T q qs (rw ih f) ∙ ih

  -- so a leaf holds every block (x, y) of depth d that lies within its own
  pub within_leaf : (p d x y : ℕ) → p < nodes T → is_fork T p ≡ false → depth_to T n p ≤ d
      → x / 2 ^ (d - depth_to T n p) ≡ column (path_to T n p) → y / 2 ^ (d - depth_to T n p) ≡ row (path_to T n p) → holder T (path_of d x y) ≡ p
  within_leaf p d x y lt f le ex ey =
      let k : ℕ = d - depth_to T n p in
      let s : d - (d - depth_to T n p) ≡ length (path_to T n p) = omega (arith, own_depth p lt) in
      let e : drop k (path_of d x y) ≡ path_to T n p =
      path_drop k d x y (omega arith) ∙ rw (s, ex, ey) (path_back (path_to T n p) (own_quadrants p lt)) in
      let ends : holder T (drop k (path_of d x y)) ≡ p = ap (holder T) e ∙ own_path p lt in
      upper_leaf k (path_of d x y) (rw ends f) ∙ ends
