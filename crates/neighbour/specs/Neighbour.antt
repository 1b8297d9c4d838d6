-- Neighbours by the geometry of blocks (document 01, 'Directions and neighbours'; document 000, section 3), each with
-- its level (document 02, No. 3).
use Rattle.std.specs.Prelude.{Ok, Err, not, cond, ◌&&◌, Option, Some, None, List, ℕ, ◌+◌, ◌-◌, ◌*◌, ◌/◌, ◌%◌, ◌^◌, ltb, length}
use Rattle.answer.specs.declared.Refusal.TheVariants.{BadDirection, NoBlock}
use Rattle.answer.specs.Numbers.{Outcome, with_level, and_then, unless}
use Rattle.quad.specs.Block.{path_of, column, row}
use Rattle.quad.specs.Direction.{east_step, south_step, stays, adj_of, diagonal}
use Rattle.table.specs.Rules.{asked_of}
use Rattle.table.specs.Nodes.{path_to, holder, level_of, side_of, left_of, top_of}
use Rattle.neighbour.specs.declared.Found.{Found}

-- what a search ends on: a node and its level, or nothing, where no block of the sheet lies
abbrev pub found_at : ℕ → ℕ → Found
found_at m l = record { node = m; level = l }

abbrev pub At : ℕ → ℕ → Option Found
At m l = Some (found_at m l)

-- the smallest node that contains the block at the end of a path, and that node's level
abbrev pub held_at : ℕ → List ℕ → List ℕ → Option Found
held_at n T ρ = At (holder T ρ) (level_of n T (holder T ρ))

-- of the blocks of depth d, the one that lies in direction D of (x, y): the smallest node that contains it and its
-- level, or none off the sheet. The steps are one more than the moves, so that nothing is negative; where the block
-- stays on the sheet the sums are at least 1
unfoldable pub beside : ℕ → List ℕ → ℕ → ℕ → ℕ → ℕ → Option Found
beside n T d x y D =
    cond (stays (2 ^ d) x (east_step D) && stays (2 ^ d) y (south_step D))
    (held_at n T (path_of d (x + east_step D - 1) (y + south_step D - 1)))
    None

-- the neighbour of node p in direction D: the block of p's own size beside p's
unfoldable pub neighbour_found : ℕ → List ℕ → ℕ → ℕ → Option Found
neighbour_found n T p D = let π = path_to T n p in beside n T (length π) (column π) (row π) D

-- what a call answers: the node with its level beside it, or code 20
abbrev pub outcome_of : Option Found → Outcome
outcome_of (Some f) = Ok (with_level f.node f.level)
outcome_of None = Err NoBlock

unfoldable pub neighbour_of : ℕ → List ℕ → ℕ → ℕ → Outcome
neighbour_of n T p D =
    and_then (asked_of n T p)
    (and_then (unless (ltb 7 D) (Err (BadDirection D)))
    (outcome_of (neighbour_found n T p D)))

-- the pixel of p's block at corner C: its column and its row
abbrev pub corner_column : ℕ → List ℕ → ℕ → ℕ → ℕ
corner_column n T p C = left_of n T p + C % 2 * (side_of n T p - 1)

abbrev pub corner_row : ℕ → List ℕ → ℕ → ℕ → ℕ
corner_row n T p C = top_of n T p + C / 2 * (side_of n T p - 1)

-- the leaf that holds the pixel in direction D of that one
abbrev pub leaf_beyond : ℕ → List ℕ → ℕ → ℕ → ℕ → Option Found
leaf_beyond n T p C D = beside n T n (corner_column n T p C) (corner_row n T p C) D

-- the leaf just outside side D at the end C of it: 7 names the side if it is none, else the corner
unfoldable pub corner_leaf_of : ℕ → List ℕ → ℕ → ℕ → ℕ → Outcome
corner_leaf_of n T p D C =
    and_then (asked_of n T p)
    (and_then (unless (ltb 3 D) (Err (BadDirection D)))
    (and_then (unless (ltb 3 C) (Err (BadDirection C)))
    (and_then (unless (not (adj_of D C)) (Err (BadDirection C)))
    (outcome_of (leaf_beyond n T p C D)))))

-- the leaf diagonally beyond corner C
unfoldable pub diagonal_leaf_of : ℕ → List ℕ → ℕ → ℕ → Outcome
diagonal_leaf_of n T p C =
    and_then (asked_of n T p)
    (and_then (unless (ltb 3 C) (Err (BadDirection C)))
    (outcome_of (leaf_beyond n T p C (diagonal C))))
