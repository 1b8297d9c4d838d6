-- What the runs of a row spell out, by induction on the level: the western son's pixels, then the eastern son's.
use mathlib.Core.List.{List, [], ◌∷◌, ◌++◌, append_assoc, append-nil}
use mathlib.Core.Path.{◌≡◌, refl, ap, sym, ◌∙◌}
use Prim.Native.Nat.{ℕ, zero, suc, ◌+◌, ◌*◌, ◌/◌, ◌^◌, ◌<◌}
use native.Mathlib.Nat.{pow-succ', add-zero, zero-mul}
use native.Mathlib.Omega.{arith}
use lib.ListN.{replicate}
use lib.Pow.{high}
use Rattle.base.specs.Tab.{tab_from, tab}
use Rattle.quad.specs.Block.{quadrant_of, path_of}
use Rattle.quad.specs.Tree.{Tree, leaf, fork, son_of, under, shade}
use Rattle.quad.proofs.PathLaws.{shade_top, shade_leaf}
use Rattle.table.specs.Nodes.{pixel, tree_at}
use Rattle.table.proofs.PictureLaws.{pixel_shade}
use Rattle.walk.specs.declared.Answer.{Answer}
use Rattle.walk.specs.declared.Answer.TheVariants.{Moved, Run, EndRow, Done, Refused}
use Rattle.walk_rows.specs.Whole.{through, crossing}
use Rattle.walk_rows.specs.Rows.{spell}
use Rattle.walk.proofs.NumberLaws.{column_son}
use Rattle.walk_rows.proofs.AlongLaws.{crossing_leaf, crossing_fork}

-- tables in parts
tab_split : (f : ℕ → ℕ) (j k i : ℕ) → tab_from f (j + k) i ≡ tab_from f j i ++ tab_from f k (i + j)
unfolding tab_from
tab_split f zero k i =
    let a : 0 + k ≡ k = omega arith in
    let b : i + 0 ≡ i = omega arith in
    rw (a, b)
tab_split f (suc j) k i =
    let a : suc j + k ≡ suc (j + k) = omega arith in
    let b : i + suc j ≡ i + 1 + j = omega arith in
    rw (a, tab_from, b, tab_split f j k (i + 1))

tab_same : (f g : ℕ → ℕ) (k i : ℕ) → ((j : ℕ) → j < k → f (i + j) ≡ g (i + j)) → tab_from f k i ≡ tab_from g k i
unfolding tab_from
tab_same f g zero i h = refl
tab_same f g (suc k) i h =
    let e : f i ≡ g i = ap f (sym (add-zero i)) ∙ h 0 (omega arith) ∙ ap g (add-zero i) in
    rw (
      e,
      tab_same f g k (i + 1) (λ j lt.
          let a : i + 1 + j ≡ i + suc j = omega arith in
          rw a (h (suc j) (omega arith))),
    )

tab_like : (f : ℕ → ℕ) (c k i : ℕ) → ((x : ℕ) → f x ≡ c) → tab_from f k i ≡ replicate k c
unfolding tab_from
tab_like f c zero i h = refl
tab_like f c (suc k) i h = rw (h i, tab_like f c k (i + 1) h)

-- spelling in parts; moves spell nothing
pub spell_append : (us vs : List Answer) → spell (us ++ vs) ≡ spell us ++ spell vs
unfolding spell
spell_append [] vs = refl
spell_append (Moved ∷ us) vs = spell_append us vs
spell_append (Run c w ∷ us) vs = rw (spell_append us vs) (sym (append_assoc (replicate w c) (spell us) (spell vs)))
spell_append (EndRow ∷ us) vs = spell_append us vs
spell_append (Done ∷ us) vs = spell_append us vs
spell_append (Refused c v ∷ us) vs = spell_append us vs

spell_through : (us : List Answer) → spell (through us) ≡ spell us
unfolding spell
spell_through us = spell_append us (Moved ∷ []) ∙ append-nil _

-- a row of a block spells its pixels, those of its western half and those of its eastern half
spelled : (l : ℕ) (t : Tree) (y X : ℕ) → spell (crossing l t y) ≡ tab_from (λ x. shade l t x y) (2 ^ l) (X * 2 ^ l)
spelled zero t y X = unfold crossing spell shade under path_of tab_from in refl
spelled (suc l) (leaf c) y X =
    rw (crossing_leaf (suc l) c y) (unfold spell in append-nil (replicate (2 ^ suc l) c)
    ∙ sym (tab_like (λ x. shade (suc l) (leaf c) x y) c (2 ^ suc l) (X * 2 ^ suc l) (λ x. shade_leaf (suc l) c x y)))
spelled (suc l) (fork a b c d) y X =
    let F : ℕ → ℕ = λ x. shade (suc l) (fork a b c d) x y in
    let half : (i : ℕ) → i < 2 → spell (crossing l (son_of (fork a b c d) (quadrant_of i (y / 2 ^ l))) y) ≡ tab_from F (2 ^ l) ((2 * X + i) * 2 ^ l) =
    λ i h.
    spelled l (son_of (fork a b c d) (quadrant_of i (y / 2 ^ l))) y (2 * X + i)
    ∙ tab_same (λ x. shade l (son_of (fork a b c d) (quadrant_of i (y / 2 ^ l))) x y) F (2 ^ l) ((2 * X + i) * 2 ^ l)
    (λ j lt.
    let e : ((2 * X + i) * 2 ^ l + j) / 2 ^ l ≡ 2 * X + i = high (2 * X + i) l lt in
    let q : quadrant_of (2 * X + i) (y / 2 ^ l) ≡ quadrant_of i (y / 2 ^ l) = omega arith in
    sym (rw (e, q) at (shade_top l (fork a b c d) ((2 * X + i) * 2 ^ l + j) y))) in
    let two : 2 ^ l + 2 ^ l ≡ 2 ^ suc l = omega (arith, pow-succ' 2 l) in
    let from : (2 * X + 0) * 2 ^ l ≡ X * 2 ^ suc l = omega (arith, column_son X 0 l) in
    let middle : (2 * X + 0) * 2 ^ l + 2 ^ l ≡ (2 * X + 1) * 2 ^ l = omega (arith, column_son X 0 l, column_son X 1 l) in
    let west : List Answer = crossing l (son_of (fork a b c d) (quadrant_of 0 (y / 2 ^ l))) y in
    let east : List Answer = crossing l (son_of (fork a b c d) (quadrant_of 1 (y / 2 ^ l))) y in
    let parts : spell (through west) ++ spell (through east) ≡ tab_from F (2 ^ l) ((2 * X + 0) * 2 ^ l) ++ tab_from F (2 ^ l) ((2 * X + 0) * 2 ^ l + 2 ^ l) =
    rw (spell_through west, spell_through east, half 0 (omega arith), half 1 (omega arith), middle) in
    ap spell (crossing_fork l a b c d y)
    ∙ spell_append (through west) (through east)
    ∙ parts
    ∙ sym (tab_split F (2 ^ l) (2 ^ l) ((2 * X + 0) * 2 ^ l))
    ∙ ap (λ (k : ℕ). tab_from F k ((2 * X + 0) * 2 ^ l)) two
    ∙ ap (λ (i : ℕ). tab_from F (2 ^ suc l) i) from

-- a row of the sheet
pub row_pixels : (n : ℕ) (T : List ℕ) (y : ℕ) → spell (crossing n (tree_at T n 0) y) ≡ tab (λ x. pixel n T x y) (2 ^ n)
row_pixels n T y =
    let z : 0 * 2 ^ n ≡ 0 = zero-mul (2 ^ n) in
    rw z at (spelled n (tree_at T n 0) y 0)
    ∙ tab_same (λ x. shade n (tree_at T n 0) x y) (λ x. pixel n T x y) (2 ^ n) 0 (λ x lt. sym (pixel_shade n T (0 + x) y))
