-- Sums of a function's values: term by term, of two functions, in either order, and of a function that is 0 but at one
-- place; and what a sum is at least.
use mathlib.Core.Bool.{Bool, true, cond}
use mathlib.Core.Logic.{⊎_elim}
use mathlib.Core.Path.{◌≡◌, refl, ap, sym, ◌∙◌}
use Prim.Native.Nat.{ℕ, zero, suc, ◌+◌, ◌*◌, ◌≤◌, ◌<◌}
use native.Mathlib.Nat.{eq-or-lt_of_le, le_of_suc-le-suc, not-suc-le-zero, mul-suc}
use native.Mathlib.Omega.{arith}
use lib.Dec.{eqb}
use borrow.Author.Tests.{eq-eqb, ne_eqb}
use Rattle.base.specs.Tab.{sum}
use Rattle.base.proofs.BoolLaws.{lt_or_ge}

pub sum_same : (f g : ℕ → ℕ) (k : ℕ) → ((i : ℕ) → i < k → f i ≡ g i) → sum f k ≡ sum g k
unfolding sum
sum_same f g zero h = refl
sum_same f g (suc k) h = omega (arith, h k (omega arith), sum_same f g k (λ i l. h i (omega arith)))

pub sum_add : (f g : ℕ → ℕ) (k : ℕ) → sum (λ i. f i + g i) k ≡ sum f k + sum g k
unfolding sum
sum_add f g zero = refl
sum_add f g (suc k) = omega (arith, sum_add f g k)

pub sum_zeros : (k : ℕ) → sum (λ i. 0) k ≡ 0
unfolding sum
sum_zeros zero = refl
sum_zeros (suc k) = omega (arith, sum_zeros k)

pub sum_ones : (k : ℕ) → sum (λ i. 1) k ≡ k
unfolding sum
sum_ones zero = refl
sum_ones (suc k) = omega (arith, sum_ones k)

pub sum_swap : (f : ℕ → ℕ → ℕ) (k m : ℕ) → sum (λ i. sum (f i) m) k ≡ sum (λ j. sum (λ i. f i j) k) m
unfolding sum
sum_swap f zero m = sym (sum_zeros m)
sum_swap f (suc k) m = ap (λ (s : ℕ). sum (f k) m + s) (sum_swap f k m) ∙ sym (sum_add (f k) (λ j. sum (λ i. f i j) k) m)

-- the term at a alone
pub sum_past : (g : ℕ → ℕ) (a k : ℕ) → k ≤ a → sum (λ i. cond (eqb a i) (g i) 0) k ≡ 0
unfolding sum
sum_past g a zero h = refl
sum_past g a (suc k) h = rw (ne_eqb a k (λ e. omega arith)) (omega (arith, sum_past g a k (omega arith)))

pub sum_one : (g : ℕ → ℕ) (a k : ℕ) → a < k → sum (λ i. cond (eqb a i) (g i) 0) k ≡ g a
unfolding sum
sum_one g a zero h = absurd (omega arith)
sum_one g a (suc k) h =
    ⊎_elim
    (λ (e : a ≡ k). rw (eq-eqb a k e) (omega (arith, sum_past g a k (omega arith), ap g e)))
    (λ (l : a < k). rw (ne_eqb a k (λ e. omega arith)) (omega (arith, sum_one g a k l)))
    (eq-or-lt_of_le (le_of_suc-le-suc h))

-- sums keep an order, and no term is above the sum
sum_le : (f g : ℕ → ℕ) (k : ℕ) → ((i : ℕ) → i < k → f i ≤ g i) → sum f k ≤ sum g k
unfolding sum
sum_le f g zero h = omega arith
sum_le f g (suc k) h = omega (arith, h k (omega arith), sum_le f g k (λ i l. h i (omega arith)))

term_le : (f : ℕ → ℕ) (k i : ℕ) → i < k → f i ≤ sum f k
unfolding sum
term_le f zero i h = absurd (not-suc-le-zero h)
term_le f (suc k) i h =
    ⊎_elim
    (λ (e : i ≡ k). omega (arith, ap f e))
    (λ (l : i < k). omega (arith, term_le f k i l))
    (eq-or-lt_of_le (le_of_suc-le-suc h))

-- a sum of k terms, none above 1, that is k has no term below 1
pub sum_full : (f : ℕ → ℕ) (k : ℕ) → ((i : ℕ) → i < k → f i ≤ 1) → sum f k ≡ k → (i : ℕ) → i < k → f i ≡ 1
unfolding sum
sum_full f zero h e i lt = absurd (not-suc-le-zero lt)
sum_full f (suc k) h e i lt =
    let few = sum_le f (λ j. 1) k (λ j l. h j (omega arith)) in
    let rest : sum f k ≡ k = omega (arith, few, sum_ones k, h k (omega arith)) in
    ⊎_elim
    (λ (d : i ≡ k). ap f d ∙ omega (arith, h k (omega arith)))
    (λ (l : i < k). sum_full f k (λ j m. h j (omega arith)) rest i l)
    (eq-or-lt_of_le (le_of_suc-le-suc lt))

-- k terms, none above c
sum_like : (c k : ℕ) → sum (λ i. c) k ≡ c * k
unfolding sum
sum_like c zero = omega arith
sum_like c (suc k) = omega (arith, sum_like c k, mul-suc c k)

pub sum_most : (f : ℕ → ℕ) (c k : ℕ) → ((i : ℕ) → i < k → f i ≤ c) → sum f k ≤ c * k
sum_most f c k h = omega (arith, sum_le f (λ i. c) k h, sum_like c k)

-- k numbers, each of which is the value of f at one of the places below m that are counted
pub no_more_than : (f : ℕ → ℕ) (b : ℕ → Bool) (m k : ℕ)
    → ((a : ℕ) → a < k → (p : ℕ) × (p < m) × (b p ≡ true) × (f p ≡ a)) → k ≤ sum (λ p. cond (b p) 1 0) m
no_more_than f b m k h =
    let hits : ℕ → ℕ → ℕ = λ p a. cond (eqb (f p) a) (cond (b p) 1 0) 0 in
    let each : sum (λ a. 1) k ≤ sum (λ a. sum (λ p. hits p a) m) k =
    sum_le (λ a. 1) (λ a. sum (λ p. hits p a) m) k (λ a l.
    let p = h a l in
    let e : hits p.0 a ≡ 1 = rw (eq-eqb (f p.0) a p.3, p.2) in
    omega (arith, e, term_le (λ p. hits p a) m p.0 p.1)) in
    let once : sum (λ p. sum (hits p) k) m ≤ sum (λ p. cond (b p) 1 0) m =
    sum_le (λ p. sum (hits p) k) (λ p. cond (b p) 1 0) m (λ p l.
    ⊎_elim
    (λ (s : f p < k). omega (arith, sum_one (λ a. cond (b p) 1 0) (f p) k s))
    (λ (g : k ≤ f p). omega (arith, sum_past (λ a. cond (b p) 1 0) (f p) k g))
    (lt_or_ge (f p) k)) in
    omega (arith, sum_ones k, each, sum_swap hits m k, once)
