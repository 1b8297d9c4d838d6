-- To contain a block, by columns and rows of blocks, is to cover its pixels: one axis at a time.
use mathlib.Core.List.{List}
use mathlib.Core.Logic.{⊎_elim}
use mathlib.Core.Path.{◌≡◌, ap, ◌∙◌}
use Prim.Native.Nat.{ℕ, ◌+◌, ◌-◌, ◌*◌, ◌/◌, ◌^◌, ◌≤◌, ◌<◌}
use native.Mathlib.Nat.{mul_assoc, add-mul, mul-le-mul_right, le_of_mul-le-mul_right, div-mul-le_self, div-lt_iff_lt-mul, div-eq_of_lt-le}
use native.Mathlib.Omega.{arith}
use lib.Pow.{pow_pos, pow-lt}
use Rattle.base.proofs.BoolLaws.{lt_or_ge}
use Rattle.base.proofs.PowLaws.{pow_product}
use Rattle.quad.specs.Block.{column, row}
use Rattle.table.specs.Table.{nodes}
use Rattle.table.specs.Rules.{depth_to}
use Rattle.table.specs.Nodes.{path_to, side_of}
use Rattle.table.proofs.AcceptedLaws.{depth_le}
use Rattle.neighbour.specs.Containing.{Contains, Covers}

-- one axis: blocks of side s, and a block of k of them from X * k on
module _ (k s X x : ℕ) (some : 0 < k) (wide : 0 < s) where
  regroup : (X + 1) * k * s ≡ X * (k * s) + k * s
  regroup = mul_assoc (X + 1) k s ∙ (add-mul X 1 (k * s) ∙ (let o : 1 * (k * s) ≡ k * s = omega arith in ap (λ (z : ℕ). X * (k * s) + z) o))

  cover : x / k ≡ X → (X * (k * s) ≤ x * s) × ((x + 1) * s ≤ X * (k * s) + k * s)
  cover e =
      let low : X * k ≤ x = rw e at (div-mul-le_self x k) in
      let l : x / k < X + 1 = omega arith in
      let high : x < (X + 1) * k = (div-lt_iff_lt-mul {k = k} {x = x} {y = X + 1} some).0 l in
      let a : X * k * s ≤ x * s = mul-le-mul_right {m = X * k} {n = x} s low in
      let b : (x + 1) * s ≤ (X + 1) * k * s = mul-le-mul_right {m = x + 1} {n = (X + 1) * k} s (omega arith) in
      (rw (mul_assoc X k s) at a, rw regroup at b)

  uncover : X * (k * s) ≤ x * s → (x + 1) * s ≤ X * (k * s) + k * s → x / k ≡ X
  uncover a b =
      let low : X * k ≤ x = le_of_mul-le-mul_right {m = X * k} {n = x} {k = s} (rw (mul_assoc X k s) a) wide in
      let high : x + 1 ≤ (X + 1) * k = le_of_mul-le-mul_right {m = x + 1} {n = (X + 1) * k} {k = s} (rw regroup b) wide in
      div-eq_of_lt-le {k = X} k low (omega arith)

module _ (n : ℕ) (T : List ℕ) (m d x y : ℕ) (fits : d ≤ n) where
  wide_side : depth_to T n m ≤ d → side_of n T m ≡ 2 ^ (d - depth_to T n m) * 2 ^ (n - d)
  wide_side le = pow_product (d - depth_to T n m) (n - d) (n - depth_to T n m) (omega arith)

  pub contains_covers : Contains n T m d x y → Covers n T m d x y
  contains_covers c =
      let i = c.inside in
      let k : ℕ = d - depth_to T n m in
      let w = wide_side i.large in
      let a = cover (2 ^ k) (2 ^ (n - d)) (column (path_to T n m)) x (pow_pos k) (pow_pos (n - d)) i.across in
      let b = cover (2 ^ k) (2 ^ (n - d)) (row (path_to T n m)) y (pow_pos k) (pow_pos (n - d)) i.down in
      record { west = rw w a.0; east = rw w a.1; north = rw w b.0; south = rw w b.1 }

  pub covers_contains : m < nodes T → Covers n T m d x y → Contains n T m d x y
  covers_contains lt c =
      let s : ℕ = 2 ^ (n - d) in
      let one : (x + 1) * s ≡ x * s + 1 * s = add-mul x 1 s in
      let w = c.west in
      let e = c.east in
      let le : depth_to T n m ≤ d =
      ⊎_elim
      (λ (l : n - depth_to T n m < n - d). absurd (omega (arith, pow-lt {i = n - depth_to T n m} {j = n - d} l)))
      (λ (g : n - d ≤ n - depth_to T n m). omega (arith, depth_le T n m))
      (lt_or_ge (n - depth_to T n m) (n - d)) in
      let k : ℕ = d - depth_to T n m in
      let v = wide_side le in
      record {
        node = lt;
        inside = record {
          large = le;
          across = uncover (2 ^ k) s (column (path_to T n m)) x (pow_pos k) (pow_pos (n - d)) (rw v at w) (rw v at e);
          down = uncover (2 ^ k) s (row (path_to T n m)) y (pow_pos k) (pow_pos (n - d)) (rw v at c.north) (rw v at c.south);
        };
      }
