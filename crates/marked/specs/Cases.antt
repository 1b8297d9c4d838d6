-- The marked cases as one table: what the definitions give, beside the number of document 01, or of document 02 where a
-- request moved it.
use Rattle.std.specs.Prelude.{Bool, true, ◌&&◌, List, [], ◌∷◌, ℕ, ◌+◌, ◌*◌, eqb}
use Rattle.answer.specs.Numbers.{number_of}
use Rattle.quad.specs.Numbers.{none, black, fork_type}
use Rattle.quad.specs.Tree.{sides_of}
use Rattle.table.specs.Table.{node_type}
use Rattle.table.specs.Rules.{check_of}
use Rattle.table.specs.Nodes.{tree_at}
use Rattle.table.specs.Preorder.{preorder_table}
use Rattle.raster.specs.Raster.{raster_tree, build_of}
use Rattle.neighbour.specs.Neighbour.{neighbour_of, corner_leaf_of}
use Rattle.file.specs.File.{read_of}
use Rattle.distance.specs.Distance.{distance_at, plain_outside}
use Rattle.walk.specs.declared.Answer.{Answer}
use Rattle.walk.specs.Walk.{start}
use Rattle.walk_rows.specs.Whole.{trace}
use Rattle.walk_rows.specs.Rows.{moves, stops, dones, tally, answers_of}
use Rattle.table.specs.SheetA.{table_a, raster_j, table_k}

-- of the first k answers of a walk over a sheet of level n, how many are of a kind
abbrev pub first_answers : (Answer → ℕ) → ℕ → ℕ → List ℕ → ℕ
first_answers kind k n T = tally kind (answers_of (trace k T (start n)))

abbrev pub table_j : List ℕ
table_j = preorder_table (raster_tree 2 raster_j)

-- a case: what the definitions give, and what the document says
pub record Case : Type 0 where
  pub gives : ℕ
  pub wants : ℕ

abbrev pub is : ℕ → ℕ → Case
is a b = record { gives = a; wants = b }

-- every case of a list holds
unfoldable pub all_hold : List Case → Bool
all_hold [] = true
all_hold (c ∷ more) = eqb c.gives c.wants && all_hold more

unfoldable pub cases : List Case
cases =
    -- (a) H is 10 and the walk gives 38 answers before Done: none of the first 38 is Done or refused, the next is Done;
    -- the program's 24 links
    is (sides_of 2 (tree_at table_a 2 0)) 10
    ∷ is (first_answers stops 38 2 table_a) 0
    ∷ is (first_answers dones 39 2 table_a) 1
    ∷ is (first_answers moves 38 2 table_a) 24
    -- (b) E of node 1 is node 2, a fork; from here to (g) the value is node × 8 + level (document 02, No. 3)
    ∷ is (number_of (neighbour_of 2 table_a 1 1)) (256 * (2 * 8 + 1))
    ∷ is (node_type table_a 2) fork_type
    -- (c) its eastern leaf at NE is 3; (d) at SE is 5
    ∷ is (number_of (corner_leaf_of 2 table_a 1 1 1)) (256 * (3 * 8 + 0))
    ∷ is (number_of (corner_leaf_of 2 table_a 1 1 3)) (256 * (5 * 8 + 0))
    -- (e) SE of 1 is 8; (f) S of 6 is 8; (g) SW of 5 is 7; (h) NW of 1 is code 20
    ∷ is (number_of (neighbour_of 2 table_a 1 7)) (256 * (8 * 8 + 1))
    ∷ is (number_of (neighbour_of 2 table_a 6 2)) (256 * (8 * 8 + 1))
    ∷ is (number_of (neighbour_of 2 table_a 5 6)) (256 * (7 * 8 + 1))
    ∷ is (number_of (neighbour_of 2 table_a 1 4)) 20
    -- (i) distances are 2 at node 1 and 1 at node 6
    ∷ is (distance_at plain_outside 2 table_a 1) 2
    ∷ is (distance_at plain_outside 2 table_a 6) 1
    -- (j) rows 1110, 1110, 1111, 1111 give the NW block 4, the SE block 2
    ∷ is (distance_at plain_outside 2 table_j 1) 4
    ∷ is (distance_at plain_outside 2 table_j 8) 2
    -- (k) one black pixel, n = 0: N = 1, no links (a run and a row's end alone, then Done), the distance's mark
    ∷ is (number_of (build_of 0 (black ∷ []) 6)) (256 * 1)
    ∷ is (number_of (check_of 0 table_k)) (256 * 1)
    ∷ is (first_answers stops 2 0 table_k) 0
    ∷ is (first_answers dones 3 0 table_k) 1
    ∷ is (first_answers moves 3 0 table_k) 0
    ∷ is (distance_at plain_outside 0 table_k 0) none
    -- (l) an empty file is 13 at 0
    ∷ is (number_of (read_of [] 0)) 13
    ∷ []
