-- What a row meets in a block: the answers of crossing it, by its tree, and its leaves, by its node.
use mathlib.Core.Bool.{true, false}
use mathlib.Core.List.{List, [], ◌∷◌, ◌++◌}
use mathlib.Core.Path.{◌≡◌, refl, ap, ◌∙◌}
use Prim.Native.Nat.{ℕ, zero, suc, ◌/◌, ◌^◌, ◌<◌}
use native.Mathlib.Omega.{arith}
use Rattle.quad.specs.Block.{quadrant_of}
use Rattle.quad.specs.Tree.{Tree, leaf, fork, colour, son_of}
use Rattle.table.specs.Table.{son, is_fork}
use Rattle.table.specs.Nodes.{tree_at}
use Rattle.table.proofs.AcceptedLaws.{tree_fork}
use Rattle.table.proofs.PictureLaws.{tree_son}
use Rattle.walk.specs.declared.Answer.TheVariants.{Run}
use Rattle.walk_rows.specs.Whole.{through, crossing}

-- the answers of a block, by its tree
pub crossing_leaf : (l c y : ℕ) → crossing l (leaf c) y ≡ Run c (2 ^ l) ∷ []
unfolding crossing colour
crossing_leaf zero c y = refl
crossing_leaf (suc l) c y = refl

pub crossing_fork : (l : ℕ) (a b c d : Tree) (y : ℕ) → crossing (suc l) (fork a b c d) y
    ≡ through (crossing l (son_of (fork a b c d) (quadrant_of 0 (y / 2 ^ l))) y) ++ through (crossing l (son_of (fork a b c d) (quadrant_of 1 (y / 2 ^ l))) y)
unfolding crossing
crossing_fork l a b c d y = refl

-- the answers of a fork's block are those of its two sons on the row
pub fork_answers : (T : List ℕ) (y p l : ℕ) → is_fork T p ≡ true → crossing (suc l) (tree_at T (suc l) p) y
    ≡ through (crossing l (tree_at T l (son T p (quadrant_of 0 (y / 2 ^ l)))) y) ++ through (crossing l (tree_at T l (son T p (quadrant_of 1 (y / 2 ^ l)))) y)
fork_answers T y p l f =
    let own : (i : ℕ) → i < 2 → son_of (tree_at T (suc l) p) (quadrant_of i (y / 2 ^ l)) ≡ tree_at T l (son T p (quadrant_of i (y / 2 ^ l))) =
    λ i h. tree_son T l p (quadrant_of i (y / 2 ^ l)) (omega arith) ∙ rw f in
    let west = own 0 (omega arith) in
    let east = own 1 (omega arith) in
    let t = tree_fork T l p f in
    ap (λ (t : Tree). crossing (suc l) t y) t ∙ crossing_fork l _ _ _ _ y ∙ rw (← t, west, east)

-- the leaves that row y crosses under node p of level l
unfoldable pub leaves_along : List ℕ → ℕ → ℕ → ℕ → List ℕ
leaves_along T zero p y = p ∷ []
leaves_along T (suc l) p y = elim (is_fork T p) [
  | true ↦ leaves_along T l (son T p (quadrant_of 0 (y / 2 ^ l))) y ++ leaves_along T l (son T p (quadrant_of 1 (y / 2 ^ l))) y
  | false ↦ p ∷ []
]

module _ (T : List ℕ) where
  pub along_leaf : (l p y : ℕ) → is_fork T p ≡ false → leaves_along T l p y ≡ p ∷ []
  unfolding leaves_along
  along_leaf zero p y f = refl
  along_leaf (suc l) p y f = rw (f, leaves_along)

  pub along_fork : (l p y : ℕ) → is_fork T p ≡ true
      → leaves_along T (suc l) p y ≡ leaves_along T l (son T p (quadrant_of 0 (y / 2 ^ l))) y ++ leaves_along T l (son T p (quadrant_of 1 (y / 2 ^ l))) y
  unfolding leaves_along
  along_fork l p y f = rw (f, leaves_along)
