-- The three calls on sheet A, with its two ponds: node 6 is black, lies under node 1's eastern neighbour, and is the
-- leaf at neither end of that side.
use Rattle.std.specs.Prelude.{Ok, Err}
use mathlib.Core.Path.{◌≡◌, refl, ap, sym, ◌∙◌}
use Prim.Native.Nat.{ℕ, ◌<◌}
use native.Mathlib.Omega.{arith}
use Rattle.answer.specs.declared.Refusal.TheVariants.{BadDirection}
use Rattle.answer.specs.Numbers.{Outcome, number_of, with_level, node_in}
use Rattle.quad.specs.Numbers.{black}
use Rattle.quad.specs.Block.{path_of, column, row}
use Rattle.quad.specs.Direction.{east_step, south_step}
use Rattle.quad.proofs.TreeLaws.{by_quadrant}
use Rattle.table.specs.Table.{father, node_type}
use Rattle.table.specs.Rules.{depth_to, all_of, type_ok, father_ok, once_ok, son_ok, word_ok, sons_ok, depth_ok, son_alike, mixed_ok, fault_at, fault_from, faults_of, length_ok, sizes_of, check_of, asked_of}
use Rattle.table.specs.Nodes.{first_quadrant, son_type, path_to, holder}
use Rattle.table.specs.SheetA.{table_a}
use Rattle.neighbour.specs.Neighbour.{beside, neighbour_found, neighbour_of, corner_leaf_of, diagonal_leaf_of}

-- what the calls owe on document 01's sheet A
pub record OnSheetA : Type 0 where
  pub east : neighbour_of 2 table_a 1 1 ≡ Ok (with_level 2 1)
  pub south : neighbour_of 2 table_a 6 2 ≡ Ok (with_level 8 1)
  pub upper : corner_leaf_of 2 table_a 1 1 1 ≡ Ok (with_level 3 0)
  pub lower : corner_leaf_of 2 table_a 1 1 3 ≡ Ok (with_level 5 0)
  pub apart : (corner_leaf_of 2 table_a 1 1 0 ≡ Err (BadDirection 0)) × (corner_leaf_of 2 table_a 1 1 2 ≡ Err (BadDirection 2))
  pub beyond : diagonal_leaf_of 2 table_a 1 3 ≡ Ok (with_level 8 1)
  pub across : diagonal_leaf_of 2 table_a 5 1 ≡ Ok (with_level 4 0)
  pub larger : diagonal_leaf_of 2 table_a 5 2 ≡ Ok (with_level 7 1)
  pub under : (father table_a 6 ≡ 2) × (node_type table_a 6 ≡ black)

pub on_sheet_a : OnSheetA
unfolding beside neighbour_found neighbour_of corner_leaf_of diagonal_leaf_of first_quadrant son_type path_to holder depth_to all_of type_ok father_ok once_ok son_ok word_ok sons_ok depth_ok son_alike mixed_ok fault_at fault_from faults_of length_ok sizes_of check_of asked_of east_step south_step path_of column row
on_sheet_a = record {
  east = refl;
  south = refl;
  upper = refl;
  lower = refl;
  apart = (refl, refl);
  beyond = refl;
  across = refl;
  larger = refl;
  under = (refl, refl);
}

-- two ponds: what lies under a grey neighbour need not touch
pub two_ponds : (C v : ℕ) → C < 4 → corner_leaf_of 2 table_a 1 1 C ≡ Ok v → node_in v ≡ 6 → ⊥
two_ponds C v lt e six =
    let a = on_sheet_a in
    by_quadrant (λ (C : ℕ). corner_leaf_of 2 table_a 1 1 C ≡ Ok v → ⊥)
    (λ e. omega (arith, other a.apart.0 e))
    (λ e. omega (arith, other a.upper e))
    (λ e. omega (arith, other a.apart.1 e))
    (λ e. omega (arith, other a.lower e))
    C
    lt
    e
  where
    other : {r s t : Outcome} → r ≡ s → r ≡ t → number_of s ≡ number_of t
    other e f = ap number_of (sym e ∙ f)
