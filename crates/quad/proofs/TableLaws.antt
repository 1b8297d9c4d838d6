-- Document 000's four tables, as the code has them, and the rule of each: one computed test over all of its entries,
-- and the law that carries it to each.
use mathlib.Core.Path.{◌≡◌, refl}
use mathlib.Core.Bool.{Bool, true, false, cond, not, false≢true}
use mathlib.Core.List.{List, [], ◌∷◌}
use Prim.Native.Nat.{ℕ, ◌<◌}
use lib.Dec.{eqb}
use lib.ListN.{get_or}
use borrow.Author.Tests.{eqb-true}
use Rattle.base.proofs.AllLaws.{all_at, all2_at}
use Rattle.quad.specs.Direction.{adj_of, reflect_of, opquad_of, common_side_of}

-- the entry of a table in row i and column j
abbrev pub entry : {A : Type 0} → List (List A) → A → ℕ → ℕ → A
entry t d i j = get_or (get_or t i []) j d

abbrev adj_table : List (List Bool)
adj_table =
    (true ∷ true ∷ false ∷ false ∷ [])
    ∷ (false ∷ true ∷ false ∷ true ∷ [])
    ∷ (false ∷ false ∷ true ∷ true ∷ [])
    ∷ (true ∷ false ∷ true ∷ false ∷ [])
    ∷ []

abbrev reflect_table : List (List ℕ)
reflect_table = (2 ∷ 3 ∷ 0 ∷ 1 ∷ []) ∷ (1 ∷ 0 ∷ 3 ∷ 2 ∷ []) ∷ (2 ∷ 3 ∷ 0 ∷ 1 ∷ []) ∷ (1 ∷ 0 ∷ 3 ∷ 2 ∷ []) ∷ []

abbrev opquad_table : List ℕ
opquad_table = 3 ∷ 2 ∷ 1 ∷ 0 ∷ []

abbrev common_side_table : List (List ℕ)
common_side_table = (4 ∷ 0 ∷ 3 ∷ 4 ∷ []) ∷ (0 ∷ 4 ∷ 4 ∷ 1 ∷ []) ∷ (3 ∷ 4 ∷ 4 ∷ 2 ∷ []) ∷ (4 ∷ 1 ∷ 2 ∷ 4 ∷ []) ∷ []

abbrev same : Bool → Bool → Bool
same a b = cond a b (not b)

same_eq : (a b : Bool) → same a b ≡ true → a ≡ b
same_eq true true e = refl
same_eq true false e = absurd (false≢true e)
same_eq false true e = absurd (false≢true e)
same_eq false false e = refl

module _ (i j : ℕ) (hi : i < 4) (hj : j < 4) where
  pub adj_rule : entry adj_table false i j ≡ adj_of i j
  adj_rule = same_eq (entry adj_table false i j) (adj_of i j) (all2_at (λ (i j : ℕ). same (entry adj_table false i j) (adj_of i j)) 4 4 refl i j hi hj)

  pub reflect_rule : entry reflect_table 0 i j ≡ reflect_of i j
  reflect_rule = eqb-true _ _ (all2_at (λ (i j : ℕ). eqb (entry reflect_table 0 i j) (reflect_of i j)) 4 4 refl i j hi hj)

  pub common_side_rule : entry common_side_table 0 i j ≡ common_side_of i j
  common_side_rule = eqb-true _ _ (all2_at (λ (i j : ℕ). eqb (entry common_side_table 0 i j) (common_side_of i j)) 4 4 refl i j hi hj)

pub opquad_rule : (q : ℕ) → q < 4 → get_or opquad_table q 0 ≡ opquad_of q
opquad_rule q h = eqb-true _ _ (all_at (λ (q : ℕ). eqb (get_or opquad_table q 0) (opquad_of q)) 4 refl q h)
