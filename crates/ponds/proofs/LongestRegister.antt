-- No register need be longer than three entries for every fork that stands just above the pixels of a sheet of the
-- highest level (`SHEET_LONGEST_REGISTER` in the header): a fork at level 1 has at most three black sons, and a leaf
-- higher up is one where those forks could be many.
use mathlib.Core.Bool.{Bool, true, false, cond, true≢false, ◌&&◌}
use mathlib.Core.List.{List}
use mathlib.Core.Logic.{⊎_elim}
use mathlib.Core.Path.{◌≡◌, refl, sym, ◌∙◌}
use Prim.Native.Nat.{ℕ, zero, suc, ◌+◌, ◌-◌, ◌*◌, ◌^◌, ◌≤◌}
use native.Mathlib.Nat.{le_trans, mul-le-mul_left, one-le-pow, pow-le-pow_right, pow-succ', zero-add}
use native.Mathlib.Omega.{arith}
use lib.Dec.{eqb}
use borrow.Author.Tests.{eqb-true, eq-eqb, ne_eqb}
use Rattle.base.proofs.BoolLaws.{by_bool, and_both}
use Rattle.base.proofs.CaseLaws.{cond_case}
use Rattle.base.proofs.SumLaws.{sum_same}
use Rattle.quad.specs.Numbers.{black, top_level, fork_type}
use Rattle.quad.specs.Tree.{Tree, leaf, fork, Within, same_leaf, Reduced}
use Rattle.table.specs.Table.{nodes, node_type, is_fork}
use Rattle.table.specs.Rules.{one, Accepted}
use Rattle.table.specs.Nodes.{tree_at}
use Rattle.table.proofs.PictureLaws.{sheet_sound}
use Rattle.table.proofs.SizeLaws.{tree_sum}
use Rattle.ponds.specs.Calls.{black_leaves}

-- the black leaves of a tree
black_in : Tree → ℕ
black_in (leaf c) = one (eqb c black)
black_in (fork a b c d) = black_in a + (black_in b + (black_in c + black_in d))

one_le : (b : Bool) → one b ≤ 1
one_le b = cond_case (λ (k : ℕ). k ≤ 1) b 1 0 (λ e. omega arith) (λ e. omega arith)

-- four tests that do not all hold
not_four : (a b c d : Bool) → (a ≡ true → b ≡ true → c ≡ true → d ≡ true → ⊥) → one a + (one b + (one c + one d)) ≤ 3
not_four true true true true h = absurd (h refl refl refl refl)
not_four true true true false h = omega arith
not_four true true false d h = omega (arith, one_le d)
not_four true false c d h = omega (arith, one_le c, one_le d)
not_four false b c d h = omega (arith, one_le b, one_le c, one_le d)

-- a tree that is no more than suc l levels high
most : (l : ℕ) (t : Tree) → Within (suc l) t → Reduced t → black_in t ≤ 3 * 4 ^ l
unfolding Within Reduced black_in same_leaf
most l (leaf k) w r = omega (arith, one_le (eqb k black), one-le-pow l 4 (omega arith))
most zero (fork (leaf a) (leaf b) (leaf c) (leaf d)) w r =
    not_four (eqb a black) (eqb b black) (eqb c black) (eqb d black)
    (λ ea eb ec ed.
    let like : (k : ℕ) → eqb k black ≡ true → eqb a k ≡ true = λ k ek. eq-eqb a k (eqb-true a black ea ∙ sym (eqb-true k black ek)) in
    true≢false (sym (and_both (eqb a b) (eqb a c && eqb a d) (like b eb) (and_both (eqb a c) (eqb a d) (like c ec) (like d ed))) ∙ r.0))
most zero (fork (fork x y z u) b c d) w r = absurd w.0
most zero (fork (leaf a) (fork x y z u) c d) w r = absurd w.1
most zero (fork (leaf a) (leaf b) (fork x y z u) d) w r = absurd w.2
most zero (fork (leaf a) (leaf b) (leaf c) (fork x y z u)) w r = absurd w.3
most (suc l) (fork a b c d) w r =
    omega (arith, pow-succ' 4 l, most l a w.0 r.1, most l b w.1 r.2, most l c w.2 r.3, most l d w.3 r.4)

most_in : (n : ℕ) (t : Tree) → Within n t → Reduced t → black_in t ≤ 3 * 4 ^ (n - 1)
unfolding Within black_in
most_in zero (leaf k) w r = omega (arith, one_le (eqb k black))
most_in zero (fork a b c d) w r = absurd w
most_in (suc l) t w r = let e : suc l - 1 ≡ l = omega arith in rw e (most l t w r)

module _ (n : ℕ) (T : List ℕ) (acc : Accepted n T) where
  counted : black_in (tree_at T n 0) ≡ black_leaves T
  unfolding black_in black_leaves
  counted =
      tree_sum n T acc (λ l t. black_in t) (λ l c. one (eqb c black)) 0 (λ l c. refl) (λ l a b c d. sym (zero-add _))
      ∙ sum_same (λ p. cond (is_fork T p) 0 (one (eqb (node_type T p) black))) (λ p. one (eqb (node_type T p) black)) (nodes T)
      (λ p lt.
      ⊎_elim
      (λ (f : is_fork T p ≡ true). rw (f, ne_eqb (node_type T p) black (λ e. omega (arith, eqb-true (node_type T p) fork_type f))))
      (λ (f : is_fork T p ≡ false). rw f)
      (by_bool (is_fork T p)))

  -- a sheet has so many black leaves at most, and its register five times as many words
  pub most_black_lem : black_leaves T ≤ 3 * 4 ^ (top_level - 1)
  most_black_lem =
      let s = sheet_sound n T acc in
      let high = acc.sized.level in
      rw (← counted)
      (le_trans (most_in n (tree_at T n 0) s.within s.reduced)
      (mul-le-mul_left 3 (pow-le-pow_right {n = 4} (omega arith) {i = n - 1} {j = top_level - 1} (omega arith))))
