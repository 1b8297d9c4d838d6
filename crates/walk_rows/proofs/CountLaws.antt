-- How many answers of each kind: a row of k runs has 4k - 4 links, by induction on the level, and the runs of a block's
-- rows add up to the sides of its leaves, its northern rows to those of the two northern sons and its southern rows to
-- those of the southern ones.
use mathlib.Core.Bool.{cond}
use mathlib.Core.List.{List, [], ◌∷◌, ◌++◌}
use mathlib.Core.Path.{◌≡◌, refl, ap, sym, ◌∙◌}
use Prim.Native.Nat.{ℕ, zero, suc, ◌+◌, ◌*◌, ◌/◌, ◌^◌, ◌<◌}
use native.Mathlib.Nat.{pow-succ', add-zero, zero-mul, zero-add}
use native.Mathlib.Omega.{arith}
use lib.Pow.{high}
use Rattle.base.specs.Tab.{sum}
use Rattle.base.proofs.SumLaws.{sum_same, sum_add, sum_ones}
use Rattle.quad.specs.Block.{quadrant_of}
use Rattle.quad.specs.Tree.{Tree, leaf, fork, colour, son_of, Within, sides_of}
use Rattle.table.specs.Table.{nodes, is_fork}
use Rattle.table.specs.Rules.{Accepted}
use Rattle.table.specs.Nodes.{tree_at, side_of}
use Rattle.table.proofs.PictureLaws.{sheet_sound}
use Rattle.table.proofs.SizeLaws.{tree_sum}
use Rattle.walk.specs.declared.Answer.{Answer}
use Rattle.walk.specs.declared.Answer.TheVariants.{Moved, Run, EndRow}
use Rattle.walk_rows.specs.Whole.{through, crossing, rows_walk, whole_walk}
use Rattle.walk_rows.specs.Rows.{moves, runs, row_ends, stops, tally, sides}
use Rattle.walk.proofs.NumberLaws.{column_son}
use Rattle.walk_rows.proofs.AlongLaws.{crossing_leaf, crossing_fork}

-- a sum in two parts, and its first term
sum_split : (f : ℕ → ℕ) (k m : ℕ) → sum f (k + m) ≡ sum f k + sum (λ j. f (k + j)) m
unfolding sum
sum_split f k zero = rw (add-zero k) (omega arith)
sum_split f k (suc m) =
    let e : k + suc m ≡ suc (k + m) = omega arith in
    rw (e, sum) (omega (arith, sum_split f k m))

sum_first : (f : ℕ → ℕ) (k : ℕ) → sum f (suc k) ≡ f 0 + sum (λ j. f (suc j)) k
unfolding sum
sum_first f zero = refl
sum_first f (suc k) = omega (arith, sum_first f k)

-- counting in parts
module _ (kind : Answer → ℕ) where
  pub tally_append : (us vs : List Answer) → tally kind (us ++ vs) ≡ tally kind us + tally kind vs
  unfolding tally
  tally_append [] vs = sym (zero-add _)
  tally_append (u ∷ us) vs = omega (arith, tally_append us vs)

  tally_through : (us : List Answer) → tally kind (through us) ≡ 2 * kind Moved + tally kind us
  unfolding tally
  tally_through us = omega (arith, tally_append us (Moved ∷ []))

  tally_leaf : (l c y : ℕ) → tally kind (crossing l (leaf c) y) ≡ kind (Run c (2 ^ l))
  unfolding tally
  tally_leaf l c y = rw (crossing_leaf l c y) (omega arith)

  tally_fork : (l : ℕ) (a b c d : Tree) (y : ℕ) → tally kind (crossing (suc l) (fork a b c d) y)
      ≡ 4 * kind Moved + tally kind (crossing l (son_of (fork a b c d) (quadrant_of 0 (y / 2 ^ l))) y) + tally kind (crossing l (son_of (fork a b c d) (quadrant_of 1 (y / 2 ^ l))) y)
  tally_fork l a b c d y =
      let west = crossing l (son_of (fork a b c d) (quadrant_of 0 (y / 2 ^ l))) y in
      let east = crossing l (son_of (fork a b c d) (quadrant_of 1 (y / 2 ^ l))) y in
      ap (tally kind) (crossing_fork l a b c d y) ∙ omega (arith, tally_append (through west) (through east), tally_through west, tally_through east)

-- a row of k runs has 4k - 4 links, no end and no stop
pub row_links : (l : ℕ) (t : Tree) (y : ℕ) → tally moves (crossing l t y) + 4 ≡ 4 * tally runs (crossing l t y)
row_links zero t y = unfold crossing tally in refl
row_links (suc l) (leaf c) y = omega (arith, tally_leaf moves (suc l) c y, tally_leaf runs (suc l) c y)
row_links (suc l) (fork a b c d) y =
    omega (arith, tally_fork moves l a b c d y, tally_fork runs l a b c d y, row_links l (son_of (fork a b c d) (quadrant_of 0 (y / 2 ^ l))) y, row_links l (son_of (fork a b c d) (quadrant_of 1 (y / 2 ^ l))) y)

row_none : (kind : Answer → ℕ) → kind Moved ≡ 0 → ((c w : ℕ) → kind (Run c w) ≡ 0) → (l : ℕ) (t : Tree) (y : ℕ) → tally kind (crossing l t y) ≡ 0
row_none kind m r zero t y = unfold crossing tally in omega (arith, r (colour t) 1)
row_none kind m r (suc l) (leaf c) y = tally_leaf kind (suc l) c y ∙ r c _
row_none kind m r (suc l) (fork a b c d) y =
    omega (arith, tally_fork kind l a b c d y, row_none kind m r l (son_of (fork a b c d) (quadrant_of 0 (y / 2 ^ l))) y, row_none kind m r l (son_of (fork a b c d) (quadrant_of 1 (y / 2 ^ l))) y)

pub row_no_ends : (l : ℕ) (t : Tree) (y : ℕ) → tally row_ends (crossing l t y) ≡ 0
row_no_ends = row_none row_ends refl (λ c w. refl)

row_no_stops : (l : ℕ) (t : Tree) (y : ℕ) → tally stops (crossing l t y) ≡ 0
row_no_stops = row_none stops refl (λ c w. refl)

-- the runs in row y of a block, and in the k rows from row y on
abbrev across : ℕ → Tree → ℕ → ℕ
across l t y = tally runs (crossing l t y)

abbrev across_rows : ℕ → Tree → ℕ → ℕ → ℕ
across_rows l t k y = sum (λ j. across l t (y + j)) k

-- the northern rows, i = 0, and the southern ones, i = 1, of a fork's block in row Y of blocks: what the two sons there
-- have
half_rows : (l : ℕ) (a b c d : Tree) (Y i : ℕ) → i < 2 → across_rows (suc l) (fork a b c d) (2 ^ l) ((2 * Y + i) * 2 ^ l)
    ≡ across_rows l (son_of (fork a b c d) (2 * i)) (2 ^ l) ((2 * Y + i) * 2 ^ l) + across_rows l (son_of (fork a b c d) (1 + 2 * i)) (2 ^ l) ((2 * Y + i) * 2 ^ l)
half_rows l a b c d Y i h =
    let west : ℕ → ℕ = λ j. across l (son_of (fork a b c d) (2 * i)) ((2 * Y + i) * 2 ^ l + j) in
    let east : ℕ → ℕ = λ j. across l (son_of (fork a b c d) (1 + 2 * i)) ((2 * Y + i) * 2 ^ l + j) in
    sum_same _ (λ j. west j + east j) (2 ^ l)
    (λ j lt.
    let e : ((2 * Y + i) * 2 ^ l + j) / 2 ^ l ≡ 2 * Y + i = high (2 * Y + i) l lt in
    let w : quadrant_of 0 (2 * Y + i) ≡ 2 * i = omega arith in
    let s : quadrant_of 1 (2 * Y + i) ≡ 1 + 2 * i = omega arith in
    rw (e, w, s) at (tally_fork runs l a b c d ((2 * Y + i) * 2 ^ l + j)) ∙ omega arith)
    ∙ sum_add west east (2 ^ l)

runs_sides : (l : ℕ) (t : Tree) (Y : ℕ) → Within l t → across_rows l t (2 ^ l) (Y * 2 ^ l) ≡ sides_of l t
unfolding sides_of Within son_of
runs_sides l (leaf c) Y w = sum_same _ (λ j. 1) (2 ^ l) (λ j lt. tally_leaf runs l c (Y * 2 ^ l + j)) ∙ sum_ones (2 ^ l)
runs_sides zero (fork a b c d) Y w = absurd w
runs_sides (suc l) (fork a b c d) Y w =
    let t : Tree = fork a b c d in
    let two : 2 ^ suc l ≡ 2 ^ l + 2 ^ l = omega (arith, pow-succ' 2 l) in
    let from : Y * 2 ^ suc l ≡ (2 * Y + 0) * 2 ^ l = omega (arith, column_son Y 0 l) in
    let middle : (2 * Y + 0) * 2 ^ l + 2 ^ l ≡ (2 * Y + 1) * 2 ^ l = omega (arith, column_son Y 0 l, column_son Y 1 l) in
    let north = half_rows l a b c d Y 0 (omega arith) in
    let south = half_rows l a b c d Y 1 (omega arith) in
    let nw = runs_sides l a (2 * Y + 0) w.0 in
    let ne = runs_sides l b (2 * Y + 0) w.1 in
    let sw = runs_sides l c (2 * Y + 1) w.2 in
    let se = runs_sides l d (2 * Y + 1) w.3 in
    let later : sum (λ j. across (suc l) t ((2 * Y + 0) * 2 ^ l + (2 ^ l + j))) (2 ^ l) ≡ across_rows (suc l) t (2 ^ l) ((2 * Y + 1) * 2 ^ l) =
    sum_same _ _ (2 ^ l) (λ j lt. ap (across (suc l) t) (omega arith)) in
    ap (λ (k : ℕ). across_rows (suc l) t k (Y * 2 ^ suc l)) two
    ∙ ap (λ (i : ℕ). across_rows (suc l) t (2 ^ l + 2 ^ l) i) from
    ∙ sum_split (λ j. across (suc l) t ((2 * Y + 0) * 2 ^ l + j)) (2 ^ l) (2 ^ l)
    ∙ omega (arith, later, north, south)

-- the answers of k rows from row y on
module _ (n : ℕ) (t : Tree) where
  tally_rows : (kind : Answer → ℕ) (k y : ℕ) → tally kind (rows_walk n t (suc k) y) ≡ tally kind (crossing n t y) + (kind EndRow + tally kind (rows_walk n t k (y + 1)))
  unfolding rows_walk tally
  tally_rows kind k y = tally_append kind (crossing n t y) (EndRow ∷ rows_walk n t k (y + 1))

  rows_runs : (k y : ℕ) → tally runs (rows_walk n t k y) ≡ across_rows n t k y
  rows_runs zero y = unfold rows_walk tally sum in refl
  rows_runs (suc k) y =
      let first = ap (across n t) (add-zero y) in
      let others : sum (λ j. across n t (y + suc j)) k ≡ across_rows n t k (y + 1) = sum_same _ _ k (λ j lt. ap (across n t) (omega arith)) in
      omega (arith, tally_rows runs k y, rows_runs k (y + 1), sum_first (λ j. across n t (y + j)) k, first, others)

  -- the links of the rows add up
  pub rows_links : (k y : ℕ) → tally moves (rows_walk n t k y) + 4 * k ≡ 4 * tally runs (rows_walk n t k y)
  rows_links zero y = unfold rows_walk tally in refl
  rows_links (suc k) y = omega (arith, tally_rows moves k y, tally_rows runs k y, row_links n t y, rows_links k (y + 1))

  pub rows_ends : (k y : ℕ) → tally row_ends (rows_walk n t k y) ≡ k
  rows_ends zero y = unfold rows_walk tally in refl
  rows_ends (suc k) y = omega (arith, tally_rows row_ends k y, row_no_ends n t y, rows_ends k (y + 1))

  pub rows_stops : (k y : ℕ) → tally stops (rows_walk n t k y) ≡ 0
  rows_stops zero y = unfold rows_walk tally in refl
  rows_stops (suc k) y = omega (arith, tally_rows stops k y, row_no_stops n t y, rows_stops k (y + 1))

-- the whole walk's counts
module _ (n : ℕ) (T : List ℕ) (acc : Accepted n T) where
  -- H is the sum of the sides of all the table's leaves
  pub sides_summed : sides n T ≡ sum (λ p. cond (is_fork T p) 0 (side_of n T p)) (nodes T)
  unfolding sides_of
  sides_summed = tree_sum n T acc sides_of (λ l c. 2 ^ l) 0 (λ l c. refl) (λ l a b c d. sym (zero-add _))

  pub whole_runs : tally runs (whole_walk n T) ≡ sides n T
  whole_runs =
      let z : 0 * 2 ^ n ≡ 0 = zero-mul (2 ^ n) in
      rows_runs n (tree_at T n 0) (2 ^ n) 0 ∙ rw z at (runs_sides n (tree_at T n 0) 0 (sheet_sound n T acc).within)

  pub whole_links : tally moves (whole_walk n T) + 4 * 2 ^ n ≡ 4 * sides n T
  whole_links = rows_links n (tree_at T n 0) (2 ^ n) 0 ∙ ap (λ (k : ℕ). 4 * k) whole_runs

  -- as document 01 writes it
  pub whole_ends : tally row_ends (whole_walk n T) ≡ 2 ^ n
  whole_ends = rows_ends n (tree_at T n 0) (2 ^ n) 0

  pub whole_stops : tally stops (whole_walk n T) ≡ 0
  whole_stops = rows_stops n (tree_at T n 0) (2 ^ n) 0
