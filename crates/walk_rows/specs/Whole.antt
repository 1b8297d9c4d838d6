-- A walk of many steps, and what a walk over a whole sheet gives, answer by answer: row after row, each row the root's
-- block crossed from left to right, then its end (document 003, the second algorithm). In document 01's words
-- specs/Rows says what these answers must be.
use Rattle.std.specs.Prelude.{List, [], ◌∷◌, ◌++◌, ◌≡◌, ℕ, zero, suc, ◌+◌, ◌-◌, ◌/◌, ◌^◌}
use Rattle.quad.specs.Block.{quadrant_of}
use Rattle.quad.specs.Tree.{Tree, leaf, fork, colour, son_of}
use Rattle.table.specs.Nodes.{tree_at}
use Rattle.walk.specs.declared.Place.{Place}
use Rattle.walk.specs.declared.Stepped.{Stepped}
use Rattle.walk.specs.declared.Answer.{Answer}
use Rattle.walk.specs.declared.Answer.TheVariants.{Moved, Run, EndRow, Done}
use Rattle.walk.specs.Walk.{start, step_of}
use Rattle.walk_rows.specs.Rows.{moves, stops, tally}

-- from a place, by steps that give these answers, to a place
pub data Walked (T : List ℕ) : Place → List Answer → Place → Type 0 where
  here : {p : Place} → Walked T p [] p
  step : {p r : Place} {more : List Answer} (a : Answer) (q : Place)
      → step_of T p ≡ record { place = q; answer = a } → Walked T q more r → Walked T p (a ∷ more) r

-- the first k steps from a place: each answer with the place that it comes with
unfoldable pub trace : ℕ → List ℕ → Place → List Stepped
trace zero T p = []
trace (suc k) T p = step_of T p ∷ trace k T (step_of T p).place

-- r is how many Moved a walk over a sheet of level n tells: counted over the answers of its own steps, from the start
-- place to the first Done
pub record Tallied (n : ℕ) (T : List ℕ) (r : ℕ) : Type 0 where
  pub told : List Answer
  pub last : Place
  pub walked : Walked T (start n) told last
  pub unbroken : tally stops told ≡ 0
  pub done : (step_of T last).answer ≡ Done
  pub links : r ≡ tally moves told

-- the start place with y set to a row
abbrev pub start_at : ℕ → ℕ → Place
start_at n y = record { n = n; node = 0; level = n; left = 0; x = 0; y = y }

-- down to a son, through its block, and up again
abbrev pub through : List Answer → List Answer
through answers = Moved ∷ (answers ++ (Moved ∷ []))

-- the answers of crossing the block of a tree of level l along row y: a leaf's run, or through the two sons that the
-- row crosses, the western one first
unfoldable pub crossing : ℕ → Tree → ℕ → List Answer
crossing zero t y = Run (colour t) 1 ∷ []
crossing (suc l) t y = elim t [
  | leaf c ↦ Run c (2 ^ suc l) ∷ []
  | fork a b c d ↦
      through (crossing l (son_of (fork a b c d) (quadrant_of 0 (y / 2 ^ l))) y)
      ++ through (crossing l (son_of (fork a b c d) (quadrant_of 1 (y / 2 ^ l))) y)
]

-- the answers of k rows from row y on
unfoldable pub rows_walk : ℕ → Tree → ℕ → ℕ → List Answer
rows_walk n t zero y = []
rows_walk n t (suc k) y = crossing n t y ++ (EndRow ∷ rows_walk n t k (y + 1))

-- the answers of a walk over the sheet from row y on, before the first Done; and of the whole walk
abbrev pub walk_from : ℕ → List ℕ → ℕ → List Answer
walk_from n T y = rows_walk n (tree_at T n 0) (2 ^ n - y) y

abbrev pub whole_walk : ℕ → List ℕ → List Answer
whole_walk n T = rows_walk n (tree_at T n 0) (2 ^ n) 0
