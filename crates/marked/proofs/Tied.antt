-- The marked cases tied to the outside calls' own statements: every outcome that satisfies a call's statement on these
-- sheets is document 01's number, or document 02's.
use mathlib.Core.List.{List, [], ◌∷◌}
use mathlib.Core.Path.{◌≡◌, refl, ap, ◌∙◌}
use Prim.Native.Nat.{ℕ, ◌+◌, ◌*◌}
use lib.ListN.{get_or}
use lib.Ieee.{Float}
use Rattle.base.specs.Tab.{tab, tab_from, least}
use Rattle.answer.specs.Numbers.{Outcome, number_of}
use Rattle.quad.specs.Numbers.{black, none}
use Rattle.quad.specs.Block.{path_of, column, row}
use Rattle.quad.specs.Direction.{east_step, south_step}
use Rattle.quad.specs.Tree.{same_leaf, size_of, join, tree_of}
use Rattle.table.specs.Rules.{depth_to, all_of, type_ok, father_ok, once_ok, son_ok, word_ok, sons_ok, depth_ok, son_alike, mixed_ok, fault_at, fault_from, faults_of, length_ok, sizes_of, each_node_of, check_of, asked_of}
use Rattle.table.specs.Nodes.{first_quadrant, son_type, path_to, holder, pixel}
use Rattle.table.specs.Preorder.{preorder}
use Rattle.table.specs.SheetA.{table_a, table_k}
use Rattle.raster.specs.Raster.{raster_tree, pixels_from, build_of}
use Rattle.neighbour.specs.Neighbour.{beside, neighbour_found, neighbour_of, corner_leaf_of}
use Rattle.file.specs.File.{open_of, read_of}
use Rattle.distance.specs.Distance.{to_outside, nearest, distance_at, distances_of, distance_of, distances_after}
use Rattle.ground.specs.Ground.{whole}
use Rattle.ground.proofs.CentreCall.{place, lent, on-A}
use Rattle.sheet.specs.Calls.{Gives, Checks, Builds, FindsNeighbour, FindsCornerLeaf, FindsDistances, ReadsFile, FindsCentre}
use Rattle.marked.specs.Cases.{table_j}

pub given : (o : Outcome) (r k : ℕ) → Gives o r → number_of o ≡ k → r ≡ k
unfolding Gives
given o r k e h = e ∙ h

-- a slice of N words that the distances are written to
abbrev pub blank : ℕ → List ℕ
blank k = tab (λ i. 7) k

pub record Tied : Type 0 where
  -- node × 8 + level (document 02, No. 3)
  pub b : (r : ℕ) → FindsNeighbour 2 table_a 1 1 r → r ≡ 256 * (2 * 8 + 1)
  pub c : (r : ℕ) → FindsCornerLeaf 2 table_a 1 1 1 r → r ≡ 256 * (3 * 8 + 0)
  pub d : (r : ℕ) → FindsCornerLeaf 2 table_a 1 1 3 r → r ≡ 256 * (5 * 8 + 0)
  pub e : (r : ℕ) → FindsNeighbour 2 table_a 1 7 r → r ≡ 256 * (8 * 8 + 1)
  pub f : (r : ℕ) → FindsNeighbour 2 table_a 6 2 r → r ≡ 256 * (8 * 8 + 1)
  pub g : (r : ℕ) → FindsNeighbour 2 table_a 5 6 r → r ≡ 256 * (7 * 8 + 1)
  pub h : (r : ℕ) → FindsNeighbour 2 table_a 1 4 r → r ≡ 20
  pub i_1 : (r : ℕ) (after : List ℕ) → FindsDistances 2 table_a (blank 9) r after → get_or after 1 0 ≡ 2
  pub i_6 : (r : ℕ) (after : List ℕ) → FindsDistances 2 table_a (blank 9) r after → get_or after 6 0 ≡ 1
  pub j_nw : (r : ℕ) (after : List ℕ) → FindsDistances 2 table_j (blank 9) r after → get_or after 1 0 ≡ 4
  pub j_se : (r : ℕ) (after : List ℕ) → FindsDistances 2 table_j (blank 9) r after → get_or after 8 0 ≡ 2
  pub k_nodes : (r : ℕ) (after : List ℕ) → Builds 0 (black ∷ []) (blank 6) r after → r ≡ 256 * 1
  pub k_check : (r : ℕ) → Checks 0 table_k r → r ≡ 256 * 1
  pub k_mark : (r : ℕ) (after : List ℕ) → FindsDistances 0 table_k (blank 1) r after → after ≡ none ∷ []
  pub l : (r : ℕ) (after : List ℕ) → ReadsFile [] [] r after → r ≡ 13
  -- document 02, No. 2
  pub origin : (r : ℕ) (after : List Float) → FindsCentre 2 table_a 1 place lent r after → (r ≡ 0) × (after ≡ whole 1005 ∷ whole 1995 ∷ whole 7 ∷ [])

pub tied : Tied
unfolding to_outside nearest distance_at distances_of distance_of distances_after least tab_from open_of read_of beside neighbour_found neighbour_of corner_leaf_of raster_tree pixels_from build_of preorder first_quadrant son_type path_to holder pixel depth_to all_of type_ok father_ok once_ok son_ok word_ok sons_ok depth_ok son_alike mixed_ok fault_at fault_from faults_of length_ok sizes_of each_node_of check_of asked_of same_leaf size_of join tree_of east_step south_step path_of column row
tied = record {
  b = λ r s. given _ r _ s refl;
  c = λ r s. given _ r _ s refl;
  d = λ r s. given _ r _ s refl;
  e = λ r s. given _ r _ s refl;
  f = λ r s. given _ r _ s refl;
  g = λ r s. given _ r _ s refl;
  h = λ r s. given _ r _ s refl;
  i_1 = λ r after s. ap (λ (l : List ℕ). get_or l 1 0) s.buffer;
  i_6 = λ r after s. ap (λ (l : List ℕ). get_or l 6 0) s.buffer;
  j_nw = λ r after s. ap (λ (l : List ℕ). get_or l 1 0) s.buffer;
  j_se = λ r after s. ap (λ (l : List ℕ). get_or l 8 0) s.buffer;
  k_nodes = λ r after s. s.number;
  k_check = λ r s. given _ r _ s refl;
  k_mark = λ r after s. s.buffer;
  l = λ r after s. s.number;
  origin = λ r after s. (s.number ∙ ap number_of on-A.answered, s.buffer ∙ on-A.node_1);
}
