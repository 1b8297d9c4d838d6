-- Cases (a) and (k) tied to the step's statement: a walk from the start place, step by step as stated, comes to Done,
-- and whoever walks to the first Done counts these numbers.
use mathlib.Core.List.{List}
use mathlib.Core.Path.{◌≡◌, refl, ap}
use Prim.Native.Nat.{ℕ, ◌^◌}
use lib.ListN.{length}
use Rattle.quad.specs.Tree.{colour, son_of}
use Rattle.table.specs.Rules.{Accepted, depth_to, all_of, type_ok, father_ok, once_ok, son_ok, word_ok, sons_ok, depth_ok, son_alike, mixed_ok, fault_at, fault_from, faults_of, length_ok, sizes_of, check_of}
use Rattle.table.specs.Nodes.{tree_at}
use Rattle.table.specs.SheetA.{table_a, table_k}
use Rattle.table.proofs.CheckLaws.{accepted_of}
use Rattle.walk.specs.declared.Place.{Place}
use Rattle.walk.specs.declared.Stepped.{Stepped}
use Rattle.walk.specs.declared.Answer.{Answer}
use Rattle.walk.specs.declared.Answer.TheVariants.{Done}
use Rattle.walk.specs.Walk.{start, step_of}
use Rattle.walk_rows.specs.Whole.{Walked, start_at, crossing, rows_walk, whole_walk}
use Rattle.walk_rows.specs.Rows.{moves, runs, row_ends, stops, tally}
use Rattle.walk_rows.proofs.WholeLaws.{walked_whole, done}
use Rattle.walk_rows.proofs.CountLaws.{whole_stops}
use Rattle.walk_rows.proofs.DemandLaws.{walk_exact}

accepted-A : Accepted 2 table_a
unfolding depth_to all_of type_ok father_ok once_ok son_ok word_ok sons_ok depth_ok son_alike mixed_ok fault_at fault_from faults_of length_ok sizes_of check_of
accepted-A = accepted_of 2 table_a refl

accepted-K : Accepted 0 table_k
unfolding depth_to all_of type_ok father_ok once_ok son_ok word_ok sons_ok depth_ok son_alike mixed_ok fault_at fault_from faults_of length_ok sizes_of check_of
accepted-K = accepted_of 0 table_k refl

-- what a list of answers counts: all of them, links, runs, row ends
pub record Counts (us : List Answer) (all links given ends : ℕ) : Type 0 where
  pub answers : length us ≡ all
  pub moved : tally moves us ≡ links
  pub ran : tally runs us ≡ given
  pub ended : tally row_ends us ≡ ends

-- a walk over a sheet of level n from its start place to the first Done
abbrev pub ToDone : ℕ → List ℕ → List Answer → Place → Type 0
ToDone n T us q = Walked T (start n) us q × (tally stops us ≡ 0) × ((step_of T q).answer ≡ Done)

-- there is such a walk, and every one counts so
pub record ToldAs (n : ℕ) (T : List ℕ) (all links given ends : ℕ) : Type 0 where
  pub some : (us : List Answer) × (q : Place) × ToDone n T us q
  pub every : (us : List Answer) (q : Place) → ToDone n T us q → Counts us all links given ends

told_as : (n : ℕ) (T : List ℕ) (all links given ends : ℕ) → Accepted n T → Counts (whole_walk n T) all links given ends → ToldAs n T all links given ends
told_as n T all links given ends acc c = record {
  some = (whole_walk n T, start_at n (2 ^ n), (walked_whole n T acc, whole_stops n T acc, ap (λ (s : Stepped). s.answer) (done n T acc)));
  every = λ us q h. rw (walk_exact n T acc us q h.0 h.1 h.2) c;
}

pub case_a : ToldAs 2 table_a 38 24 10 4
unfolding rows_walk crossing tree_at tally colour son_of
case_a = told_as 2 table_a 38 24 10 4 accepted-A (record { answers = refl; moved = refl; ran = refl; ended = refl })

pub case_k : ToldAs 0 table_k 2 0 1 1
unfolding rows_walk crossing tree_at tally colour son_of
case_k = told_as 0 table_k 2 0 1 1 accepted-K (record { answers = refl; moved = refl; ran = refl; ended = refl })
