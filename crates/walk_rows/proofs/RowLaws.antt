-- The rows of a walk's answers: the runs of each row are those of the leaves that it crosses, and a row's leaves, so
-- its runs, are one list.
use mathlib.Core.Bool.{true, false}
use mathlib.Core.List.Memᴰ
use mathlib.Core.List.{List, [], ◌∷◌, ◌++◌, append_assoc, append-nil, map, map-append}
use mathlib.Core.Logic.{⊎_elim}
use mathlib.Core.Path.{◌≡◌, refl, ap, sym, ◌∙◌}
use Prim.Native.Nat.{ℕ, zero, suc, ◌+◌, ◌*◌, ◌/◌, ◌^◌, ◌<◌}
use native.Mathlib.Nat.{div-eq_of_lt}
use native.Mathlib.Omega.{arith}
use Rattle.base.specs.Tab.{tab}
use Rattle.base.proofs.BoolLaws.{by_bool}
use Rattle.quad.specs.Block.{quadrant_of}
use Rattle.table.specs.Table.{son, node_type, is_fork}
use Rattle.table.specs.Rules.{Accepted}
use Rattle.table.specs.Nodes.{pixel, tree_at, left_of}
use Rattle.table.proofs.AcceptedLaws.{tree_leaf, fork_deep}
use Rattle.walk.specs.declared.Answer.{Answer}
use Rattle.walk.specs.declared.Answer.TheVariants.{Moved, Run, EndRow, Done, Refused}
use Rattle.walk_rows.specs.Whole.{through, crossing, rows_walk, whole_walk}
use Rattle.walk_rows.specs.Rows.{In, Rightward, RowLeaves, run_of, RowRuns, EachRow, rows_in, spell, row_ends, tally}
use Rattle.walk_rows.proofs.AlongLaws.{crossing_leaf, fork_answers, leaves_along, along_leaf, along_fork}
use Rattle.walk_rows.proofs.CountLaws.{row_no_ends}
use Rattle.walk_rows.proofs.SpellLaws.{row_pixels}
use Rattle.walk_rows.proofs.LeafLaws.{Stands, side_at, stands_root, stands_half, row_leaves}

-- two lists from left to right with the same members are the same
same_members : (n : ℕ) (T : List ℕ) (ps qs : List ℕ) → Rightward n T ps → Rightward n T qs
    → ((p : ℕ) → In p ps → In p qs) → ((p : ℕ) → In p qs → In p ps) → ps ≡ qs
unfolding Rightward
same_members n T [] [] a b f g = refl
same_members n T [] (q ∷ qs) a b f g = absurd (Memᴰ.not-nil (g q (Memᴰ.head refl)))
same_members n T (p ∷ ps) [] a b f g = absurd (Memᴰ.not-nil (f p (Memᴰ.head refl)))
same_members n T (p ∷ ps) (q ∷ qs) a b f g =
    let e : p ≡ q =
    ⊎_elim (λ (e : p ≡ q). e)
    (λ (i : In p qs). ⊎_elim (λ (e : q ≡ p). sym e) (λ (j : In q ps). absurd (omega (arith, a.0 q j, b.0 p i))) (Memᴰ.cases_cons (g q (Memᴰ.head refl))))
    (Memᴰ.cases_cons (f p (Memᴰ.head refl))) in
    let le : left_of n T p ≡ left_of n T q = ap (left_of n T) e in
    let down : (r : ℕ) → In r ps → In r qs =
    λ r i. ⊎_elim (λ (z : r ≡ q). absurd (omega (arith, a.0 r i, ap (left_of n T) z))) (λ k. k) (Memᴰ.cases_cons (f r (Memᴰ.tail i))) in
    let up : (r : ℕ) → In r qs → In r ps =
    λ r i. ⊎_elim (λ (z : r ≡ p). absurd (omega (arith, b.0 r i, ap (left_of n T) z))) (λ k. k) (Memᴰ.cases_cons (g r (Memᴰ.tail i))) in
    let rest = same_members n T ps qs a.1 b.1 down up in
    cc

-- so a row has one list of leaves, and one list of runs
pub one_leaves : (n : ℕ) (T : List ℕ) (y : ℕ) (ps qs : List ℕ) → RowLeaves n T y ps → RowLeaves n T y qs → ps ≡ qs
one_leaves n T y ps qs a b =
    same_members n T ps qs a.rightward b.rightward (λ p i. b.all p (a.only p i)) (λ p i. a.all p (b.only p i))

pub one_row : (n : ℕ) (T : List ℕ) (y : ℕ) (r s : List Answer) → RowRuns n T y r → RowRuns n T y s → r ≡ s
one_row n T y r s a b = a.each ∙ ap (map (run_of n T)) (one_leaves n T y _ _ a.are b.are) ∙ sym b.each

-- the runs among answers
unfoldable pub runs_of : List Answer → List Answer
runs_of [] = []
runs_of (Moved ∷ more) = runs_of more
runs_of (Run c w ∷ more) = Run c w ∷ runs_of more
runs_of (EndRow ∷ more) = runs_of more
runs_of (Done ∷ more) = runs_of more
runs_of (Refused c v ∷ more) = runs_of more

runs_append : (us vs : List Answer) → runs_of (us ++ vs) ≡ runs_of us ++ runs_of vs
unfolding runs_of
runs_append [] vs = refl
runs_append (Moved ∷ us) vs = runs_append us vs
runs_append (Run c w ∷ us) vs = rw (runs_append us vs)
runs_append (EndRow ∷ us) vs = runs_append us vs
runs_append (Done ∷ us) vs = runs_append us vs
runs_append (Refused c v ∷ us) vs = runs_append us vs

runs_through : (us : List Answer) → runs_of (through us) ≡ runs_of us
unfolding runs_of
runs_through us = runs_append us (Moved ∷ []) ∙ append-nil _

spell_runs : (us : List Answer) → spell (runs_of us) ≡ spell us
unfolding runs_of spell
spell_runs [] = refl
spell_runs (Moved ∷ us) = spell_runs us
spell_runs (Run c w ∷ us) = rw (spell_runs us)
spell_runs (EndRow ∷ us) = spell_runs us
spell_runs (Done ∷ us) = spell_runs us
spell_runs (Refused c v ∷ us) = spell_runs us

-- a row's answers, then its end: the row's runs, then the rows after it
row_then : (row us more : List Answer) → tally row_ends us ≡ 0 → rows_in row (us ++ (EndRow ∷ more)) ≡ (row ++ runs_of us) ∷ rows_in [] more
unfolding rows_in runs_of tally
row_then row [] more h = rw (append-nil row)
row_then row (Moved ∷ us) more h = row_then row us more (omega arith)
row_then row (Run c w ∷ us) more h = row_then (row ++ (Run c w ∷ [])) us more (omega arith) ∙ rw (append_assoc row (Run c w ∷ []) (runs_of us))
row_then row (EndRow ∷ us) more h = absurd (omega arith)
row_then row (Done ∷ us) more h = row_then row us more (omega arith)
row_then row (Refused c v ∷ us) more h = row_then row us more (omega arith)

module _ (n : ℕ) (T : List ℕ) (acc : Accepted n T) where
  -- the runs of a block along a row are those of its leaves there
  leaf_runs : (l p X y : ℕ) → Stands n T p l X (y / 2 ^ l) → is_fork T p ≡ false
      → runs_of (crossing l (tree_at T l p) y) ≡ map (run_of n T) (leaves_along T l p y)
  unfolding runs_of
  leaf_runs l p X y s f = rw (tree_leaf T l p f, crossing_leaf l (node_type T p) y, along_leaf T l p y f, side_at n T p l X (y / 2 ^ l) s)

  block_runs : (l p X y : ℕ) → Stands n T p l X (y / 2 ^ l) → runs_of (crossing l (tree_at T l p) y) ≡ map (run_of n T) (leaves_along T l p y)
  block_runs zero p X y s =
      ⊎_elim
      (λ (f : is_fork T p ≡ true). absurd (omega (arith, fork_deep n T acc p s.node f, s.deep)))
      (leaf_runs 0 p X y s)
      (by_bool (is_fork T p))
  block_runs (suc l) p X y s =
      ⊎_elim
      (λ (f : is_fork T p ≡ true).
      let half : (i : ℕ) → i < 2 → runs_of (crossing l (tree_at T l (son T p (quadrant_of i (y / 2 ^ l)))) y) ≡ map (run_of n T) (leaves_along T l (son T p (quadrant_of i (y / 2 ^ l))) y) =
      λ i h. block_runs l (son T p (quadrant_of i (y / 2 ^ l))) (2 * X + i) y (stands_half n T acc y p l X i h s f) in
      rw (fork_answers T y p l f, runs_append, runs_through, runs_through, half 0 (omega arith), half 1 (omega arith), along_fork T l p y f, map-append))
      (leaf_runs (suc l) p X y s)
      (by_bool (is_fork T p))

  -- the runs of a row of the sheet
  pub row_runs : (y : ℕ) → y < 2 ^ n → RowRuns n T y (runs_of (crossing n (tree_at T n 0) y))
  row_runs y h =
      let s : Stands n T 0 n 0 (y / 2 ^ n) = rw (div-eq_of_lt h) (stands_root n T acc) in
      record { leaves = leaves_along T n 0 y; are = row_leaves n T acc y h; each = block_runs n 0 0 y s }

  -- whatever list of runs is a row's, it spells that row of the raster
  pub row_spells : (y : ℕ) (row : List Answer) → y < 2 ^ n → RowRuns n T y row → spell row ≡ tab (λ x. pixel n T x y) (2 ^ n)
  row_spells y row h r =
      ap spell (one_row n T y row _ r (row_runs y h)) ∙ spell_runs (crossing n (tree_at T n 0) y) ∙ row_pixels n T y

  -- the rows of the walk from row y on
  rows_told : (k y : ℕ) → y + k ≡ 2 ^ n → EachRow (RowRuns n T) n y (rows_in [] (rows_walk n (tree_at T n 0) k y))
  unfolding EachRow rows_in rows_walk
  rows_told zero y e = omega arith
  rows_told (suc k) y e =
      rw (row_then [] (crossing n (tree_at T n 0) y) (rows_walk n (tree_at T n 0) k (y + 1)) (row_no_ends n (tree_at T n 0) y))
      (omega arith, row_runs y (omega arith), rows_told k (y + 1) (omega arith))

  pub whole_rows : EachRow (RowRuns n T) n 0 (rows_in [] (whole_walk n T))
  whole_rows = rows_told (2 ^ n) 0 (omega arith)
