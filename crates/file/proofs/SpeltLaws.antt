-- Bytes that spell a list of types, a record for each: the records of two lists stand one after the other.
use mathlib.Core.List.{List, [], ◌∷◌, ◌++◌}
use mathlib.Core.Path.{◌≡◌}
use Prim.Native.Nat.{ℕ, ◌+◌, ◌*◌, ◌≤◌}
use native.Mathlib.Omega.{arith}
use lib.ListN.{length, get_or}
use Rattle.file.specs.File.{mark, node_mark}

-- a node record of type k stands at a place
pub record Stands (s : List ℕ) (at k : ℕ) : Type 0 where
  pub fits : at + 3 ≤ length s
  pub first : get_or s at 0 ≡ mark
  pub second : get_or s (at + 1) 0 ≡ node_mark
  pub kind : get_or s (at + 2) 0 ≡ k

-- from a place on, a record for each type
unfoldable pub Spelt : List ℕ → ℕ → List ℕ → Type 0
Spelt s at [] = Unit {0}
Spelt s at (k ∷ ks) = Stands s at k × Spelt s (at + 3) ks

module _ (s : List ℕ) where
  pub spelt_append : (xs ys : List ℕ) (at i : ℕ) → i ≡ at + 3 * length xs → Spelt s at xs → Spelt s i ys → Spelt s at (xs ++ ys)
  unfolding Spelt
  spelt_append [] ys at i e h g =
      let z : i ≡ at = omega arith in
      rw z at g
  spelt_append (x ∷ xs) ys at i e h g = (h.0, spelt_append xs ys (at + 3) i (omega arith) h.1 g)

  pub spelt_parts : (xs ys : List ℕ) (at i : ℕ) → i ≡ at + 3 * length xs → Spelt s at (xs ++ ys) → Spelt s at xs × Spelt s i ys
  unfolding Spelt
  spelt_parts [] ys at i e h =
      let z : at ≡ i = omega arith in
      (tt, rw z at h)
  spelt_parts (x ∷ xs) ys at i e h =
      let r = spelt_parts xs ys (at + 3) i (omega arith) h.1 in
      ((h.0, r.0), r.1)

  -- they stand within the bytes
  pub spelt_fits : (ks : List ℕ) (at : ℕ) → at ≤ length s → Spelt s at ks → at + 3 * length ks ≤ length s
  unfolding Spelt
  spelt_fits [] at le h = omega arith
  spelt_fits (k ∷ ks) at le h = omega (arith, spelt_fits ks (at + 3) h.0.fits h.1)
