-- Sums over a raster of w columns: row by row, and over one of the blocks that part it.
use mathlib.Core.Bool.{Bool, true, false, cond}
use mathlib.Core.Path.{◌≡◌, refl, ap, sym, ◌∙◌}
use Prim.Native.Nat.{ℕ, zero, suc, ◌+◌, ◌*◌, ◌/◌, ◌%◌, ◌<◌}
use native.Mathlib.Nat.{add-zero, suc-mul, zero-mul, mul_assoc, mul-pos, le_trans, mul-add-div_right, mul-add-mod_self_right, mod-eq_of_lt, div-eq_of_lt}
use native.Mathlib.Omega.{arith}
use lib.Dec.{eqb}
use Rattle.base.specs.Tab.{sum}
use Rattle.base.proofs.SumLaws.{sum_same, sum_zeros, sum_one}

-- the first a terms, then b more
pub sum_split : (f : ℕ → ℕ) (a b : ℕ) → sum f (a + b) ≡ sum f a + sum (λ i. f (a + i)) b
unfolding sum
sum_split f a zero = rw add-zero (omega arith)
sum_split f a (suc b) =
    let e : a + suc b ≡ suc (a + b) = omega arith in
    rw e (omega (arith, sum_split f a b))

-- one number so often
pub sum_times : (v k : ℕ) → sum (λ i. v) k ≡ k * v
unfolding sum
sum_times v zero = omega arith
sum_times v (suc k) = omega (arith, sum_times v k, suc-mul k v)

pub sum_rows : (f : ℕ → ℕ → ℕ) (w h : ℕ) → 0 < w → sum (λ i. f (i % w) (i / w)) (h * w) ≡ sum (λ y. sum (λ x. f x y) w) h
unfolding sum
sum_rows f w zero pos = rw (zero-mul w)
sum_rows f w (suc h) pos =
    let e : suc h * w ≡ h * w + w = suc-mul h w in
    let row : sum (λ x. f ((h * w + x) % w) ((h * w + x) / w)) w ≡ sum (λ x. f x h) w =
    sum_same _ _ w
    (λ x l.
    let m : (h * w + x) % w ≡ x = mul-add-mod_self_right h w x ∙ mod-eq_of_lt l in
    let d : (h * w + x) / w ≡ h = mul-add-div_right pos h x ∙ omega (arith, div-eq_of_lt l) in
    rw (m, d)) in
    rw e (omega (arith, sum_split (λ i. f (i % w) (i / w)) (h * w) w, row, sum_rows f w h pos))

-- a sum where a test holds
sum_if : (t : Bool) (f : ℕ → ℕ) (k : ℕ) → sum (λ i. cond t (f i) 0) k ≡ cond t (sum f k) 0
sum_if true f k = refl
sum_if false f k = sum_zeros k

-- one of k stretches of s places has s of them
stretch_sum : (s c k v : ℕ) → 0 < s → c < k → sum (λ x. cond (eqb c (x / s)) v 0) (k * s) ≡ s * v
stretch_sum s c k v pos lt =
    sum_rows (λ x y. cond (eqb c y) v 0) s k pos
    ∙ (sum_same _ _ k (λ y l. sum_if (eqb c y) (λ x. v) s ∙ ap (λ (u : ℕ). cond (eqb c y) u 0) (sum_times v s)) ∙ sum_one (λ y. s * v) c k lt)

-- and one of k * k blocks, the one in column c and row r, has s * s
pub block_sum : (s c r k v : ℕ) → 0 < s → c < k → r < k
    → sum (λ i. cond (eqb r (i / (k * s) / s)) (cond (eqb c (i % (k * s) / s)) v 0) 0) (k * s * (k * s)) ≡ s * s * v
block_sum s c r k v pos lc lr =
    sum_rows (λ x y. cond (eqb r (y / s)) (cond (eqb c (x / s)) v 0) 0) (k * s) (k * s) (mul-pos (le_trans (omega arith) lc) pos)
    ∙ (sum_same _ _ (k * s)
    (λ y l.
    sum_if (eqb r (y / s)) (λ x. cond (eqb c (x / s)) v 0) (k * s)
    ∙ ap (λ (u : ℕ). cond (eqb r (y / s)) u 0) (stretch_sum s c k v pos lc))
    ∙ (stretch_sum s r k (s * v) pos lr ∙ sym (mul_assoc s s v)))
