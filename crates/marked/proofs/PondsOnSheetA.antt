-- The story on sheet A: node 1 is water, its eastern neighbour is grey, and the water under it does not touch: a dry
-- bank, column 2, runs between. There are two ponds, and no call that meets the statement gives another number, another
-- word or another entry.
use Rattle.std.specs.Prelude.{Ok}
use mathlib.Core.Bool.{Bool, true, cond, ◌&&◌}
use mathlib.Core.List.{List, [], ◌∷◌}
use mathlib.Core.Logic.{⊎_elim}
use mathlib.Core.Path.{◌≡◌, refl, ap, sym, ◌∙◌}
use Prim.Native.Nat.{ℕ, ◌+◌, ◌-◌, ◌*◌, ◌/◌, ◌%◌, ◌<◌, ◌≤◌}
use native.Mathlib.Nat.{eq-zero-or-pos}
use native.Mathlib.Omega.{arith}
use lib.Dec.{eqb, ltb, leb}
use lib.ListN.{length, get_or}
use borrow.Author.Tests.{eq-eqb, ne_eqb, lt-ltb, eqb-true, leb-true, ltb-true}
use Rattle.base.specs.All.{all, all2}
use Rattle.base.specs.Tab.{tab_from, sum, least, greatest, overlay}
use Rattle.base.proofs.AllLaws.{all_at, all2_at}
use Rattle.base.proofs.BoolLaws.{and_left, and_right, lt_or_ge}
use Rattle.answer.specs.Numbers.{Outcome, answers, number_of}
use Rattle.quad.specs.Numbers.{black}
use Rattle.quad.specs.Block.{path_of}
use Rattle.quad.specs.Direction.{east_step, south_step}
use Rattle.table.specs.Table.{node_type}
use Rattle.table.specs.Rules.{depth_to, all_of, type_ok, father_ok, once_ok, son_ok, word_ok, sons_ok, depth_ok, son_alike, mixed_ok, fault_at, fault_from, faults_of, length_ok, sizes_of, each_node_of, Accepted}
use Rattle.table.specs.Nodes.{holder, pixel}
use Rattle.table.specs.SheetA.{table_a}
use Rattle.neighbour.proofs.SmallestLaws.{holder_contains}
use Rattle.ponds.specs.Chain.{Chain, end}
use Rattle.ponds.specs.Words.{word_of}
use Rattle.ponds.proofs.ChainLaws.{chain_start, chain_end}
use Rattle.ponds.specs.declared.Pond.{Pond}
use Rattle.ponds.specs.Entries.{leaf_at, number_at, entry_of, entries, entries_from, words_of}
use Rattle.ponds.specs.Numbered.{Numbered}
use Rattle.ponds.specs.Calls.{black_leaves, ponds_test, Finds, FindsInEntries}
use Rattle.ponds.specs.Paths.{Wet}
use Rattle.ponds.proofs.LeafLaws.{black_leaf, leaf_pixel}
use Rattle.ponds.proofs.PathLaws.{chain_path, path_keeps}
use Rattle.ponds.proofs.OneNumbering.{one_numbering}
use Rattle.ponds_find.proofs.CallLaws.{passed}
use Rattle.sheet.specs.Calls.{FindsPonds}
use Rattle.marked.proofs.Tied.{blank}

-- one number for each of the two black leaves
abbrev pub numbers_a : List ℕ
numbers_a = 0 ∷ 1 ∷ 0 ∷ 0 ∷ 0 ∷ 0 ∷ 2 ∷ 0 ∷ 0 ∷ []

-- four pixels in rows 0 to 1 and columns 0 to 1; one pixel in row 1 and column 3; two words that stay
abbrev pub register_a : List ℕ
register_a = 4 ∷ 0 ∷ 1 ∷ 0 ∷ 1 ∷ 1 ∷ 1 ∷ 1 ∷ 3 ∷ 3 ∷ 7 ∷ 7 ∷ []

-- the tests are passed
pub passes : answers (ponds_test 2 table_a 9 (5 * black_leaves table_a) 12) ≡ true
unfolding ponds_test black_leaves sum each_node_of depth_to all_of type_ok father_ok once_ok son_ok word_ok sons_ok depth_ok son_alike mixed_ok fault_at fault_from faults_of length_ok sizes_of
passes = refl

accepted : Accepted 2 table_a
accepted = (passed 2 table_a 9 (5 * black_leaves table_a) 12 passes).0

-- the number at the pixel (x, y)
abbrev at : ℕ → ℕ → ℕ
at x y = get_or numbers_a (holder table_a (path_of 2 x y)) 0

-- from a black pixel of the sheet to a black one beside it the number does not change
abbrev wet : ℕ → ℕ → Bool
wet x y = ltb x 4 && (ltb y 4 && eqb (pixel 2 table_a x y) black)

abbrev keeps : ℕ → ℕ → ℕ → Bool
keeps x y D =
    cond (wet x y && (ltb 0 (x + east_step D) && (ltb 0 (y + south_step D) && wet (x + east_step D - 1) (y + south_step D - 1))))
    (eqb (at x y) (at (x + east_step D - 1) (y + south_step D - 1))) true

all_keep : all (λ D. all2 (λ x y. keeps x y D) 4 4) 4 ≡ true
unfolding path_of holder pixel east_step south_step
all_keep = refl

is_wet : (x y : ℕ) → Wet 2 (pixel 2 table_a) x y → wet x y ≡ true
is_wet x y w = rw (lt-ltb x 4 w.across, lt-ltb y 4 w.down, eq-eqb (pixel 2 table_a x y) black w.wet)

kept : (x y D : ℕ) → D < 4 → Wet 2 (pixel 2 table_a) x y → 0 < x + east_step D → 0 < y + south_step D
    → Wet 2 (pixel 2 table_a) (x + east_step D - 1) (y + south_step D - 1) → at x y ≡ at (x + east_step D - 1) (y + south_step D - 1)
kept x y D side w east south v =
    let h = all2_at (λ x y. keeps x y D) 4 4 (all_at (λ D. all2 (λ x y. keeps x y D) 4 4) 4 all_keep D side) x y w.across w.down in
    eqb-true _ _
    (rw (is_wet x y w, lt-ltb 0 (x + east_step D) east, lt-ltb 0 (y + south_step D) south, is_wet (x + east_step D - 1) (y + south_step D - 1) v) at h)

-- so a chain joins leaves of one number
same_number : (p q : ℕ) → Chain 2 table_a p q → word_of numbers_a p ≡ word_of numbers_a q
unfolding leaf_at
same_number p q c =
    let wp = chain_start 2 table_a p q c in
    let wq = chain_end 2 table_a p q c in
    let i = leaf_pixel 2 table_a accepted p wp.node (black_leaf table_a p wp.wet) in
    let j = leaf_pixel 2 table_a accepted q wq.node (black_leaf table_a q wq.wet) in
    let a = holder_contains 2 table_a accepted 2 (i.0 % 4) (i.0 / 4) (omega arith) (omega (arith, i.1)) in
    let b = holder_contains 2 table_a accepted 2 (j.0 % 4) (j.0 / 4) (omega arith) (omega (arith, j.1)) in
    let path = chain_path 2 table_a accepted p q c (i.0 % 4) (i.0 / 4) (j.0 % 4) (j.0 / 4) (rw i.2 at a) (rw j.2 at b) in
    let e : at (i.0 % 4) (i.0 / 4) ≡ at (j.0 % 4) (j.0 / 4) = path_keeps 2 (pixel 2 table_a) at kept (i.0 % 4) (i.0 / 4) (j.0 % 4) (j.0 / 4) path in
    rw (i.2, j.2) at e

-- the other rules of a numbering, over all nodes and pixels at once
abbrev is_black : ℕ → Bool
is_black p = eqb (node_type table_a p) black

ruled : all (λ p. leb (word_of numbers_a p) 2 && cond (is_black p) (ltb 0 (word_of numbers_a p)) (eqb (word_of numbers_a p) 0)) 9 ≡ true
ruled = refl

rule : (p : ℕ) → p < 9 → leb (word_of numbers_a p) 2 && cond (is_black p) (ltb 0 (word_of numbers_a p)) (eqb (word_of numbers_a p) 0) ≡ true
rule = all_at (λ p. leb (word_of numbers_a p) 2 && cond (is_black p) (ltb 0 (word_of numbers_a p)) (eqb (word_of numbers_a p) 0)) 9 ruled

lone : all2 (λ p q. cond (is_black p && (is_black q && eqb (word_of numbers_a p) (word_of numbers_a q))) (eqb p q) true) 9 9 ≡ true
lone = refl

low : all (λ i. leb (number_at 2 table_a numbers_a i) 2) 16 ≡ true
unfolding leaf_at path_of holder
low = refl

first : number_at 2 table_a numbers_a 0 ≡ 1
unfolding leaf_at path_of holder
first = refl

numbered : Numbered 2 table_a numbers_a 2
numbered = record {
  each = refl;
  dry = λ p lt d. eqb-true _ _ (rw (ne_eqb (node_type table_a p) black d) at (and_right (leb (word_of numbers_a p) 2) _ (rule p lt)));
  some = λ p w. ltb-true _ _ (rw (eq-eqb (node_type table_a p) black w.wet) at (and_right (leb (word_of numbers_a p) 2) _ (rule p w.node)));
  few = λ p w. leb-true _ _ (and_left (leb (word_of numbers_a p) 2) _ (rule p w.node));
  one = same_number;
  apart = λ p q w v e.
      let s : p ≡ q = eqb-true p q
      (rw (eq-eqb (node_type table_a p) black w.wet, eq-eqb (node_type table_a q) black v.wet, eq-eqb (word_of numbers_a p) (word_of numbers_a q) e) at
      (all2_at (λ p q. cond (is_black p && (is_black q && eqb (word_of numbers_a p) (word_of numbers_a q))) (eqb p q) true) 9 9 lone p q w.node v.node)) in
      rw (← s) (end w);
  order = λ i a lt some less.
      let high : number_at 2 table_a numbers_a i ≤ 2 = leb-true _ _ (all_at (λ i. leb (number_at 2 table_a numbers_a i) 2) 16 low i lt) in
      let a1 : a ≡ 1 = omega arith in
      (0, ⊎_elim (λ (z : i ≡ 0). absurd (omega (arith, first, ap (number_at 2 table_a numbers_a) z))) (λ l. l) (eq-zero-or-pos i), first ∙ sym a1);
  all = λ a some few.
      ⊎_elim
      (λ (l : a < 2). let e : 1 ≡ a = omega arith in (1, record { node = omega arith; wet = refl }, e))
      (λ (g : 2 ≤ a). let e : 2 ≡ a = omega arith in (6, record { node = omega arith; wet = refl }, e))
      (lt_or_ge a 2);
}

-- what any library that meets the statement gives there, however an entry is written
on-A : {A : Type 0} (written : List Pond → List A) (wide : ℕ) (reg reg' : List A) (o : Outcome) (numbers : List ℕ)
    → answers (ponds_test 2 table_a 9 (wide * black_leaves table_a) (length reg)) ≡ true → Finds 2 table_a written wide (blank 9) reg o numbers reg'
    → (o ≡ Ok 2) × (numbers ≡ numbers_a) × (reg' ≡ overlay (written (entries 2 table_a numbers_a 2)) reg)
unfolding tab_from
on-A written wide reg reg' o numbers good f =
    let a = f.answered good in
    let same = one_numbering 2 table_a accepted numbers numbers_a a.0 2 a.2.numbered numbered in (
      a.1 ∙ ap Ok same.1,
      same.0,
      a.2.register ∙ ap (λ (m : List ℕ). overlay (written (entries 2 table_a m a.0)) reg) same.0
          ∙ ap (λ (c : ℕ). overlay (written (entries 2 table_a numbers_a c)) reg) same.1,
    )

-- the C call, on words
pub ponds_on-A : (r : ℕ) (numbers reg : List ℕ) → FindsPonds 2 table_a (blank 9) (blank 12) r numbers reg
    → (r ≡ 256 * 2) × (numbers ≡ numbers_a) × (reg ≡ register_a)
unfolding tab_from entry_of entries_from words_of leaf_at path_of holder sum least greatest
ponds_on-A r numbers reg f =
    let a = on-A words_of 5 (blank 12) reg f.outcome numbers passes f.slices in
    (f.number ∙ ap number_of a.0, a.1, a.2)

-- and the call on structs, lent room for three
abbrev pub old : Pond
old = record { pixels = 7; top = 7; bottom = 7; left = 7; right = 7 }

abbrev pub three : List Pond
three = old ∷ old ∷ old ∷ []

abbrev pub entries_a : List Pond
entries_a =
    record { pixels = 4; top = 0; bottom = 1; left = 0; right = 1 }
    ∷ record { pixels = 1; top = 1; bottom = 1; left = 3; right = 3 }
    ∷ old
    ∷ []

pub entries_on-A : (o : Outcome) (numbers : List ℕ) (reg : List Pond) → FindsInEntries 2 table_a (blank 9) three o numbers reg
    → (o ≡ Ok 2) × (numbers ≡ numbers_a) × (reg ≡ entries_a)
unfolding ponds_test black_leaves each_node_of depth_to all_of type_ok father_ok once_ok son_ok word_ok sons_ok depth_ok son_alike mixed_ok fault_at fault_from faults_of length_ok sizes_of entry_of entries_from leaf_at path_of holder sum least greatest
entries_on-A o numbers reg f = on-A (λ es. es) 1 three reg o numbers refl f
