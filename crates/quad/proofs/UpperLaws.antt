-- The upper end of a path: without its k deepest quadrants it leads to the block, 2 ^ k times as large, that contains
-- the block at the end of it.
use mathlib.Core.List.{List, [], ◌∷◌}
use mathlib.Core.Path.{◌≡◌, ap, sym, ◌∙◌}
use Prim.Native.Nat.{ℕ, zero, suc, ◌+◌, ◌-◌, ◌*◌, ◌/◌, ◌%◌, ◌^◌, ◌≤◌}
use native.Mathlib.Nat.{div-one, zero-div, sub-zero}
use native.Mathlib.Omega.{arith}
use lib.ListN.{drop}
use Rattle.quad.specs.Block.{path_of, column, row, Quadrants}
use Rattle.quad.proofs.PathLaws.{half_first}

pub column_drop : (k : ℕ) (π : List ℕ) → column (drop k π) ≡ column π / 2 ^ k
unfolding column
column_drop zero π = sym (div-one (column π))
column_drop (suc k) [] = sym (zero-div (2 ^ suc k))
column_drop (suc k) (q ∷ qs) =
    let h : (q % 2 + 2 * column qs) / 2 ≡ column qs = omega arith in
    column_drop k qs ∙ sym (ap (λ (c : ℕ). c / 2 ^ k) h) ∙ half_first k (q % 2 + 2 * column qs)

pub row_drop : (k : ℕ) (π : List ℕ) → Quadrants π → row (drop k π) ≡ row π / 2 ^ k
unfolding row Quadrants
row_drop zero π z = sym (div-one (row π))
row_drop (suc k) [] z = sym (zero-div (2 ^ suc k))
row_drop (suc k) (q ∷ qs) z =
    let q<4 = z.0 in
    let h : (q / 2 + 2 * row qs) / 2 ≡ row qs = omega arith in
    row_drop k qs z.1 ∙ sym (ap (λ (c : ℕ). c / 2 ^ k) h) ∙ half_first k (q / 2 + 2 * row qs)

pub quadrants_drop : (k : ℕ) (π : List ℕ) → Quadrants π → Quadrants (drop k π)
unfolding Quadrants
quadrants_drop zero π z = z
quadrants_drop (suc k) [] z = tt
quadrants_drop (suc k) (q ∷ qs) z = quadrants_drop k qs z.1

pub path_drop : (k d x y : ℕ) → k ≤ d → drop k (path_of d x y) ≡ path_of (d - k) (x / 2 ^ k) (y / 2 ^ k)
unfolding path_of
path_drop zero d x y le = rw (sub-zero d, div-one x, div-one y)
path_drop (suc k) zero x y le = absurd (omega arith)
path_drop (suc k) (suc d) x y le =
    let e : suc d - suc k ≡ d - k = omega arith in
    rw (path_drop k d (x / 2) (y / 2) (omega arith), half_first k x, half_first k y, e)
