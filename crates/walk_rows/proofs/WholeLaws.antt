-- The walk over an accepted sheet, row by row: from a row's start to the next row's, so from any row to the end, where
-- every further answer is Done. And a walk is one: the same start gives the same answers.
use mathlib.Core.Bool.{false}
use mathlib.Core.List.{List, [], ◌∷◌, ◌++◌, append_assoc}
use mathlib.Core.Path.{◌≡◌, refl, ap, sym, ◌∙◌}
use Prim.Native.Nat.{ℕ, zero, suc, ◌+◌, ◌-◌, ◌*◌, ◌^◌, ◌≤◌, ◌<◌}
use native.Mathlib.Nat.{zero-mul, zero-add}
use native.Mathlib.Omega.{arith}
use lib.ListN.{length, replicate}
use borrow.Author.Tests.{le-ltb, le-leb, eq-eqb}
use Rattle.quad.specs.Tree.{Tree}
use Rattle.table.specs.Table.{nodes}
use Rattle.table.specs.Rules.{Accepted}
use Rattle.table.specs.Nodes.{tree_at}
use Rattle.table.proofs.CheckLaws.{sizes_good}
use Rattle.table.proofs.RuleLaws.{depth_root}
use Rattle.walk.specs.declared.Place.{Place}
use Rattle.walk.specs.declared.Stepped.{Stepped}
use Rattle.walk.specs.declared.Answer.{Answer}
use Rattle.walk.specs.declared.Answer.TheVariants.{EndRow, Done}
use Rattle.walk.specs.Walk.{start, bad_place, outside_of, step_of, Steps}
use Rattle.walk_rows.specs.Whole.{Walked, here, step, trace, start_at, crossing, rows_walk, walk_from, whole_walk}
use Rattle.walk_rows.specs.Rows.{stops, tally, answers_of}
use Rattle.walk_rows.proofs.AlongLaws.{leaves_along}
use Rattle.walk_rows.proofs.PassLaws.{at, gives, then, Passes}
use Rattle.walk_rows.proofs.CrossLaws.{not_bad, opened, cross}

-- no second outcome of a step
pub one_step : (T : List ℕ) (p : Place) (r s : Stepped) → Steps T p r → Steps T p s → r ≡ s
one_step T p r s e f = e ∙ sym f

-- rows one after another
pub rows_split : (n : ℕ) (t : Tree) (j k y : ℕ) → rows_walk n t (j + k) y ≡ rows_walk n t j y ++ rows_walk n t k (y + j)
unfolding rows_walk
rows_split n t zero k y =
    let a : 0 + k ≡ k = omega arith in
    let b : y + 0 ≡ y = omega arith in
    rw (a, b)
rows_split n t (suc j) k y =
    let a : suc j + k ≡ suc (j + k) = omega arith in
    let b : y + suc j ≡ y + 1 + j = omega arith in
    rw (a, rows_walk, b, rows_split n t j k (y + 1)) (sym (append_assoc (crossing n t y) (EndRow ∷ rows_walk n t j (y + 1)) (rows_walk n t k (y + 1 + j))))

module _ (n : ℕ) (T : List ℕ) (acc : Accepted n T) where
  -- a row: the root's block is crossed, and the row ends
  pub row_crossed : (y : ℕ) → y < 2 ^ n → Passes T (start_at n y) (crossing n (tree_at T n 0) y) (leaves_along T n 0 y) (at n 0 n 0 (2 ^ n) y)
  row_crossed y row =
      let z : 0 * 2 ^ n ≡ 0 = zero-mul (2 ^ n) in
      let e : 0 + 2 ^ n ≡ 2 ^ n = zero-add (2 ^ n) in
      rw (z, e) at (cross n T acc y row n 0 0 acc.sized.some (omega (arith, depth_root T n)) (omega arith))

  pub row_ended : (y : ℕ) → y < 2 ^ n → step_of T (at n 0 n 0 (2 ^ n) y) ≡ gives EndRow (start_at n (y + 1))
  unfolding outside_of
  row_ended y row =
      let z : 0 * 2 ^ n ≡ 0 = zero-mul (2 ^ n) in
      rw z at (opened n T acc y row 0 n 0 (2 ^ n) acc.sized.some (omega arith) (omega arith) (omega arith))
      ∙ rw (le-leb 0 (2 ^ n) (omega arith), le-ltb (2 ^ n) (0 + 2 ^ n) (omega arith), eq-eqb n n refl)

  pub row_walked : (y : ℕ) → y < 2 ^ n → Walked T (start_at n y) (crossing n (tree_at T n 0) y ++ (EndRow ∷ [])) (start_at n (y + 1))
  row_walked y row = then (row_crossed y row).walked (step EndRow _ (row_ended y row) here)

  -- rows, and from any row to the end
  rows_walked : (k y : ℕ) → y + k ≡ 2 ^ n → Walked T (start_at n y) (rows_walk n (tree_at T n 0) k y) (start_at n (2 ^ n))
  unfolding rows_walk
  rows_walked zero y e =
      let z : y ≡ 2 ^ n = omega arith in
      rw z here
  rows_walked (suc k) y e =
      rw append_assoc at (then (row_walked y (omega arith)) (rows_walked k (y + 1) (omega arith)))

  pub walked_from : (y : ℕ) → y ≤ 2 ^ n → Walked T (start_at n y) (walk_from n T y) (start_at n (2 ^ n))
  walked_from y h = rows_walked (2 ^ n - y) y (omega arith)

  pub walked_whole : Walked T (start n) (whole_walk n T) (start_at n (2 ^ n))
  walked_whole = rows_walked (2 ^ n) 0 (omega arith)

  -- a walk begun at row y gives the rest of the whole walk
  pub rest : (y : ℕ) → y ≤ 2 ^ n → whole_walk n T ≡ rows_walk n (tree_at T n 0) y 0 ++ walk_from n T y
  rest y h =
      let a : y + (2 ^ n - y) ≡ 2 ^ n = omega arith in
      ap (λ (k : ℕ). rows_walk n (tree_at T n 0) k 0) (sym a) ∙ rows_split n (tree_at T n 0) y (2 ^ n - y) 0 ∙ rw zero-add

  -- at the end, Done with the same place for ever
  pub done : step_of T (start_at n (2 ^ n)) ≡ gives Done (start_at n (2 ^ n))
  unfolding step_of
  done =
      let z : 0 * 2 ^ n ≡ 0 = zero-mul (2 ^ n) in
      let fine : bad_place (nodes T) (start_at n (2 ^ n)) ≡ false =
      rw z at (not_bad n T 0 n 0 0 (2 ^ n) acc.sized.some (omega arith) (omega arith) (omega arith) (omega arith)) in
      rw (sizes_good n T acc.sized, fine, eq-eqb (2 ^ n) (2 ^ n) refl)

  pub done_for_ever : (k : ℕ) → trace k T (start_at n (2 ^ n)) ≡ replicate k (gives Done (start_at n (2 ^ n)))
  unfolding trace
  done_for_ever zero = refl
  done_for_ever (suc k) = rw (done, done_for_ever k)

-- the steps of a walk have its answers
pub trace_answers : {T : List ℕ} {p q : Place} {us : List Answer} → Walked T p us q → answers_of (trace (length us) T p) ≡ us
unfolding trace
trace_answers here = refl
trace_answers (step a q e w) = rw (e, trace_answers w)

-- a walk that goes on has not come to Done
goes_on : (s : Stepped) (u : Answer) (q : Place) (more : ℕ) → s ≡ gives u q → s.answer ≡ Done → stops u + more ≡ 0 → ⊥
goes_on s u q more f d none =
    let e : u ≡ Done = sym (ap (λ (s : Stepped). s.answer) f) ∙ d in
    omega (arith, rw e at none)

-- two walks from one place that each come to Done, and not before, give the same answers
pub same_walk : {T : List ℕ} {p q r : Place} {us vs : List Answer} → Walked T p us q → Walked T p vs r → tally stops us ≡ 0 → tally stops vs ≡ 0
    → (step_of T q).answer ≡ Done → (step_of T r).answer ≡ Done → us ≡ vs
unfolding tally
same_walk here here a b d e = refl
same_walk here (step u s f w) a b d e = absurd (goes_on _ u s _ f d b)
same_walk (step u s f v) here a b d e = absurd (goes_on _ u s _ f e a)
same_walk (step u s f v) (step u' s' f' w) a b d e =
    let g : gives u s ≡ gives u' s' = sym f ∙ f' in
    let h : u ≡ u' = ap (λ (s : Stepped). s.answer) g in
    let k : s' ≡ s = ap (λ (s : Stepped). s.place) (sym g) in
    let more = same_walk v (rw k at w) (omega arith) (omega arith) d e in
    cc
