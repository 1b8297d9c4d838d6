-- What a walk must give (document 01, 'The row walk'; demand 3): every row from top to bottom; in each row one run for
-- each leaf block which that row crosses, from left to right, with that leaf's colour and width; one link at a time,
-- each Moved showing the next node; and the exact counts. A claimed walk is a list of steps as told, each an answer
-- with the place that it comes with: nothing here speaks of how a step is worked out.
use Rattle.std.specs.Prelude.{false, ◌⊎◌, ◌≡◌, ℕ, ◌+◌, ◌*◌, ◌^◌, ◌≤◌, ◌<◌, replicate}
use mathlib.Core.List.{List, [], ◌∷◌, ◌++◌, map, Memᴰ}
use Rattle.quad.specs.Numbers.{top_colour}
use Rattle.quad.specs.Tree.{sides_of}
use Rattle.table.specs.Table.{nodes, father, son, node_type, is_fork}
use Rattle.table.specs.Nodes.{tree_at, side_of, left_of, top_of}
use Rattle.walk.specs.declared.Place.{Place}
use Rattle.walk.specs.declared.Stepped.{Stepped}
use Rattle.walk.specs.declared.Answer.{Answer}
use Rattle.walk.specs.declared.Answer.TheVariants.{Moved, Run, EndRow, Done, Refused}
use Rattle.walk.specs.Walk.{start}

-- p is among ps
abbrev pub In : ℕ → List ℕ → Type 0
In p ps = Memᴰ p ps

-- p is a leaf whose block row y crosses: the block's rows contain y
pub record Crossed (n : ℕ) (T : List ℕ) (y p : ℕ) : Type 0 where
  pub node : p < nodes T
  pub leaf : is_fork T p ≡ false
  pub from : top_of n T p ≤ y
  pub to : y < top_of n T p + side_of n T p

-- from left to right: each node's left column lies right of that of each node before it
unfoldable pub Rightward : ℕ → List ℕ → List ℕ → Type 0
Rightward n T [] = Unit {0}
Rightward n T (p ∷ ps) = ((q : ℕ) → In q ps → left_of n T p < left_of n T q) × Rightward n T ps

-- ps are the leaves whose blocks row y crosses, all of them and no other, from left to right
pub record RowLeaves (n : ℕ) (T : List ℕ) (y : ℕ) (ps : List ℕ) : Type 0 where
  pub all : (p : ℕ) → Crossed n T y p → In p ps
  pub only : (p : ℕ) → In p ps → Crossed n T y p
  pub rightward : Rightward n T ps

-- a leaf's run: its colour, and for its width its side
abbrev pub run_of : ℕ → List ℕ → ℕ → Answer
run_of n T p = Run (node_type T p) (side_of n T p)

-- these are the runs of row y: one for each of its leaves
pub record RowRuns (n : ℕ) (T : List ℕ) (y : ℕ) (row : List Answer) : Type 0 where
  pub leaves : List ℕ
  pub are : RowLeaves n T y leaves
  pub each : row ≡ map (run_of n T) leaves

-- each row from row y on, to the last, is as P says of its number: the rows come from top to bottom and none is left
-- out
unfoldable pub EachRow : {A : Type 0} → (ℕ → List A → Type 0) → ℕ → ℕ → List (List A) → Type 0
EachRow P n y [] = y ≡ 2 ^ n
EachRow P n y (row ∷ rows) = (y < 2 ^ n) × P y row × EachRow P n (y + 1) rows

-- the runs among a walk's answers, row by row, where `row` holds those of the row so far: a row ends with EndRow
unfoldable pub rows_in : List Answer → List Answer → List (List Answer)
rows_in row [] = []
rows_in row (Moved ∷ more) = rows_in row more
rows_in row (Run c w ∷ more) = rows_in (row ++ (Run c w ∷ [])) more
rows_in row (EndRow ∷ more) = row ∷ rows_in [] more
rows_in row (Done ∷ more) = rows_in row more
rows_in row (Refused c v ∷ more) = rows_in row more

-- the nodes where the walk stands when it tells a run, row by row
unfoldable pub leaves_in : List ℕ → List Stepped → List (List ℕ)
leaves_in row [] = []
leaves_in row (s ∷ more) = elim s.answer [
  | Moved ↦ leaves_in row more
  | Run c w ↦ leaves_in (row ++ (s.place.node ∷ [])) more
  | EndRow ↦ row ∷ leaves_in [] more
  | Done ↦ leaves_in row more
  | Refused c v ↦ leaves_in row more
]

-- what runs spell out: each colour as often as its run is wide
unfoldable pub spell : List Answer → List ℕ
spell [] = []
spell (Moved ∷ more) = spell more
spell (Run c w ∷ more) = replicate w c ++ spell more
spell (EndRow ∷ more) = spell more
spell (Done ∷ more) = spell more
spell (Refused c v ∷ more) = spell more

-- 1 for an answer of the kind that is counted
abbrev pub moves : Answer → ℕ
moves Moved = 1
moves (Run c w) = 0
moves EndRow = 0
moves Done = 0
moves (Refused c v) = 0

abbrev pub runs : Answer → ℕ
runs Moved = 0
runs (Run c w) = 1
runs EndRow = 0
runs Done = 0
runs (Refused c v) = 0

abbrev pub row_ends : Answer → ℕ
row_ends Moved = 0
row_ends (Run c w) = 0
row_ends EndRow = 1
row_ends Done = 0
row_ends (Refused c v) = 0

-- Done, or refused
abbrev pub stops : Answer → ℕ
stops Moved = 0
stops (Run c w) = 0
stops EndRow = 0
stops Done = 1
stops (Refused c v) = 1

-- Done alone
abbrev pub dones : Answer → ℕ
dones Moved = 0
dones (Run c w) = 0
dones EndRow = 0
dones Done = 1
dones (Refused c v) = 0

-- how many of the answers are of a kind
unfoldable pub tally : (Answer → ℕ) → List Answer → ℕ
tally kind [] = 0
tally kind (a ∷ more) = kind a + tally kind more

-- q is reached from p by one link: it is p's father or one of its sons
abbrev pub Linked : List ℕ → ℕ → ℕ → Type 0
Linked T p q = (q ≡ father T p) ⊎ ((k : ℕ) × (k < 4) × (q ≡ son T p k))

-- what an answer tells of the step from p to q: Moved goes along one link to the node that q shows, which is one of the
-- table's and so never None, and nothing else changes the node; a Run has the colour of the leaf where the walk stands
abbrev pub Tells : List ℕ → Place → Answer → Place → Type 0
Tells T p Moved q = Linked T p.node q.node × (q.node < nodes T)
Tells T p (Run c w) q = (q.node ≡ p.node) × (node_type T p.node ≡ c) × (c ≤ top_colour)
Tells T p EndRow q = q.node ≡ p.node
Tells T p Done q = q.node ≡ p.node
Tells T p (Refused c v) q = q.node ≡ p.node

-- so told, step after step from a place
unfoldable pub Honest : List ℕ → Place → List Stepped → Type 0
Honest T p [] = Unit {0}
Honest T p (s ∷ more) = Tells T p s.answer s.place × Honest T s.place more

abbrev pub answers_of : List Stepped → List Answer
answers_of told = map (λ s. s.answer) told

-- H, the sum of the sides of all leaves: added up over the tree, and the same over the table's own leaves
-- (`sides_summed`, proofs/CountLaws)
abbrev pub sides : ℕ → List ℕ → ℕ
sides n T = sides_of n (tree_at T n 0)

-- demand 3, of the steps before the first Done that someone claims for a walk from the start place
pub record Demanded (n : ℕ) (T : List ℕ) (told : List Stepped) : Type 0 where
  pub honest : Honest T (start n) told
  pub rows : EachRow (RowRuns n T) n 0 (rows_in [] (answers_of told))
  pub stood : EachRow (RowLeaves n T) n 0 (leaves_in [] told)
  pub moved : tally moves (answers_of told) + 4 * 2 ^ n ≡ 4 * sides n T
  pub ran : tally runs (answers_of told) ≡ sides n T
  pub ended : tally row_ends (answers_of told) ≡ 2 ^ n
  pub unbroken : tally stops (answers_of told) ≡ 0
