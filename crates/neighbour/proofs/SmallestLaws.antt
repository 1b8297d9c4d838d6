-- The node that the definitions name is the smallest node that contains the block, and the only such one; a fork is it
-- only at the block's own size. A node that contains the block stands at the upper end of the block's path, and the
-- holder's end is the longest.
use mathlib.Core.Bool.{true, false}
use mathlib.Core.List.{List, [], ◌∷◌}
use mathlib.Core.Logic.{⊎_elim}
use mathlib.Core.Path.{◌≡◌, ap, sym, ◌∙◌}
use Prim.Native.Nat.{ℕ, zero, suc, ◌-◌, ◌^◌, ◌≤◌, ◌<◌}
use native.Mathlib.Nat.{eq-or-lt_of_le, le_refl, le_trans}
use native.Mathlib.Omega.{arith}
use lib.Dec.{eqb}
use lib.ListN.{length, drop}
use lib.Pow.{pow-lt}
use borrow.Author.Tests.{eqb-true, eqb-false}
use Rattle.base.proofs.BoolLaws.{by_bool}
use Rattle.quad.specs.Block.{path_of, Quadrants}
use Rattle.quad.proofs.PathLaws.{path_length, path_quadrants, path_back}
use Rattle.quad.proofs.UpperLaws.{path_drop}
use Rattle.table.specs.Table.{is_fork}
use Rattle.table.specs.Rules.{depth_to, Accepted}
use Rattle.table.specs.Nodes.{path_to, holder}
use Rattle.table.proofs.AcceptedLaws.{depth_le, depth_son}
use Rattle.table.proofs.NodeLaws.{holder_fork, holder_leaf}
use Rattle.table.proofs.HolderLaws.{held_inside, Held, held, own_quadrants, own_path, own_depth}
use Rattle.neighbour.specs.Containing.{Contains, Smallest}

module _ (n : ℕ) (T : List ℕ) (acc : Accepted n T) where
  -- the holder of a larger block stands no deeper
  step_shallow : (q : ℕ) (qs : List ℕ) → Quadrants (q ∷ qs) → depth_to T n (holder T qs) ≤ depth_to T n (holder T (q ∷ qs))
  unfolding Quadrants
  step_shallow q qs z =
      ⊎_elim
      (λ (f : is_fork T (holder T qs) ≡ true).
      let b = (held n T acc qs z.1).below in
      rw (holder_fork T q qs f) (omega (arith, depth_son n T acc (holder T qs) q b f z.0)))
      (λ (f : is_fork T (holder T qs) ≡ false). rw (holder_leaf T q qs f) (le_refl (depth_to T n (holder T qs))))
      (by_bool (is_fork T (holder T qs)))

  upper_shallow : (k : ℕ) (π : List ℕ) → Quadrants π → depth_to T n (holder T (drop k π)) ≤ depth_to T n (holder T π)
  unfolding Quadrants
  upper_shallow zero π z = omega arith
  upper_shallow (suc k) [] z = omega arith
  upper_shallow (suc k) (q ∷ qs) z = le_trans (upper_shallow k qs z.1) (step_shallow q qs z)

  -- the block (x, y) of depth d of the sheet
  module _ (d x y : ℕ) (hx : x < 2 ^ d) (hy : y < 2 ^ d) where
    h : Held n T (path_of d x y)
    h = held n T acc (path_of d x y) (path_quadrants d x y)

    size : length (path_of d x y) ≡ d
    size = path_length d x y

    pub holder_contains : Contains n T (holder T (path_of d x y)) d x y
    holder_contains =
        let w = held_inside n T acc d x y hx hy in
        record {
          node = h.below;
          inside = record { large = omega (arith, h.shallow, size); across = sym w.0; down = sym w.1 };
        }

    -- a node that contains the block stands on its path
    pub on_path : (m : ℕ) → Contains n T m d x y → path_to T n m ≡ drop (d - depth_to T n m) (path_of d x y)
    on_path m c =
        let e : ℕ = depth_to T n m in
        let i = c.inside in
        let le = i.large in
        let o : length (path_to T n m) ≡ e = own_depth n T acc m c.node in
        let z : d - (d - e) ≡ e = omega arith in
        sym (path_back (path_to T n m) (own_quadrants n T acc m c.node))
        ∙ rw (o, ← i.across, ← i.down)
        (sym (path_drop (d - e) d x y (omega arith) ∙ rw z))

    deepest : (m : ℕ) → Contains n T m d x y → depth_to T n m ≤ depth_to T n (holder T (path_of d x y))
    deepest m c =
        let e = own_path n T acc m c.node in
        let u = upper_shallow (d - depth_to T n m) (path_of d x y) (path_quadrants d x y) in
        let w : holder T (drop (d - depth_to T n m) (path_of d x y)) ≡ m = ap (holder T) (sym (on_path m c)) ∙ e in
        rw w at u

    same_depth : (m : ℕ) → Contains n T m d x y → depth_to T n m ≡ depth_to T n (holder T (path_of d x y)) → m ≡ holder T (path_of d x y)
    same_depth m c e =
        let k : ℕ = holder T (path_of d x y) in
        let p : path_to T n m ≡ path_to T n k = on_path m c ∙ rw e (sym (on_path k holder_contains)) in
        sym (own_path n T acc m c.node) ∙ ap (holder T) p ∙ own_path n T acc k h.below

    -- the smallest node that contains the block
    pub holder_smallest : Smallest n T (holder T (path_of d x y)) d x y
    holder_smallest = record {
      contains = holder_contains;
      others = λ k c ne.
          let a : ℕ = depth_to T n k in
          let b : ℕ = depth_to T n (holder T (path_of d x y)) in
          ⊎_elim
          (λ (e : a ≡ b). absurd (ne (same_depth k c e)))
          (λ (l : a < b). pow-lt {i = n - b} {j = n - a} (omega (arith, depth_le T n (holder T (path_of d x y)))))
          (eq-or-lt_of_le (deepest k c));
    }

    -- a fork only at the block's own size
    pub fork_size : is_fork T (holder T (path_of d x y)) ≡ true → depth_to T n (holder T (path_of d x y)) ≡ d
    fork_size f = h.full f ∙ size

  -- no two nodes are the smallest
  pub smallest_only : (d x y k m : ℕ) → Smallest n T k d x y → Smallest n T m d x y → k ≡ m
  smallest_only d x y k m a b =
      ⊎_elim
      (λ (e : eqb k m ≡ true). eqb-true k m e)
      (λ (e : eqb k m ≡ false).
      let ne = eqb-false k m e in
      absurd (omega (arith, b.others k a.contains ne, a.others m b.contains (λ q. ne (sym q)))))
      (by_bool (eqb k m))
