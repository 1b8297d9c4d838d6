-- Demand 3 is met, for every n and any numbering: the steps from the start place to the first Done are as demanded,
-- then it is Done for ever, and no other walk comes from there.
use mathlib.Core.Bool.{not, ◌||◌}
use mathlib.Core.List.{List, [], ◌∷◌, ◌++◌, append-nil, append_assoc}
use mathlib.Core.Logic.{inl, inr}
use mathlib.Core.Path.{◌≡◌, refl, ap, ◌∙◌}
use Prim.Native.Nat.{ℕ, zero, suc, ◌+◌, ◌/◌, ◌^◌, ◌<◌}
use native.Mathlib.Omega.{arith}
use lib.Dec.{leb, eqb}
use lib.ListN.{length, replicate, length-append, length-replicate}
use borrow.Author.Tests.{leb-true, leb-false}
use Rattle.base.proofs.CaseLaws.{cond_case}
use Rattle.answer.specs.Numbers.{answers}
use Rattle.quad.specs.Numbers.{top_colour, fork_type}
use Rattle.quad.specs.Block.{quadrant_of}
use Rattle.table.specs.Table.{nodes, father, node_type}
use Rattle.table.specs.Rules.{Accepted, sizes_of}
use Rattle.table.specs.Nodes.{tree_at}
use Rattle.walk.specs.declared.Place.{Place}
use Rattle.walk.specs.declared.Stepped.{Stepped}
use Rattle.walk.specs.declared.Answer.{Answer}
use Rattle.walk.specs.declared.Answer.TheVariants.{Moved, Run, EndRow, Done, Refused}
use Rattle.walk.specs.Walk.{start, bad_place, spans, half, next_son, inside_of, outside_of, step_of}
use Rattle.walk_rows.specs.Whole.{Walked, trace, start_at, crossing, rows_walk, whole_walk}
use Rattle.walk_rows.specs.Rows.{RowLeaves, EachRow, leaves_in, row_ends, stops, tally, Tells, Honest, answers_of, Demanded}
use Rattle.walk.proofs.PlaceLaws.{neither}
use Rattle.walk_rows.proofs.PassLaws.{at, gives, trace_step, trace_length, trace_then, told_at, standing}
use Rattle.walk_rows.proofs.WholeLaws.{row_crossed, row_ended, walked_whole, done, done_for_ever, trace_answers, same_walk}
use Rattle.walk_rows.proofs.CountLaws.{row_no_ends, whole_links, whole_runs, whole_ends, whole_stops}
use Rattle.walk_rows.proofs.LeafLaws.{row_leaves}
use Rattle.walk_rows.proofs.RowLaws.{whole_rows}

-- whatever the table and the place, a step tells what it does: Moved goes along one link, and nothing else changes the
-- node
module _ (T : List ℕ) (p : Place) where
  abbrev Fair : Stepped → Type 0
  Fair s = Tells T p s.answer s.place

  inside_tells : Fair (inside_of T p)
  unfolding inside_of
  inside_tells =
      cond_case Fair (leb (node_type T p.node) top_colour) _ _
      (λ e. (refl, refl, leb-true _ _ e))
      (λ e. cond_case Fair (not (eqb (node_type T p.node) fork_type) || (eqb p.level 0 || leb (nodes T) (next_son T p))) _ _
      (λ e. refl)
      (λ e.
      let ok = (neither (eqb p.level 0) _ (neither (not (eqb (node_type T p.node) fork_type)) _ e).1).1 in
      (inr (quadrant_of (p.x / half p) (p.y / half p), omega arith, refl), leb-false _ _ ok)))

  outside_tells : Fair (outside_of T p)
  unfolding outside_of
  outside_tells =
      cond_case Fair (eqb p.level p.n) _ _
      (λ e. refl)
      (λ e. cond_case Fair (leb (nodes T) (father T p.node)) _ _ (λ e. refl) (λ e. (inl refl, leb-false _ _ e)))

  pub step_tells : Fair (step_of T p)
  unfolding step_of
  step_tells =
      cond_case Fair (answers (sizes_of p.n T)) _ _
      (λ e. cond_case Fair (bad_place (nodes T) p) _ _
      (λ e. refl)
      (λ e. cond_case Fair (eqb p.y (2 ^ p.n)) _ _
      (λ e. refl)
      (λ e. cond_case Fair (spans p) _ _ (λ e. inside_tells) (λ e. outside_tells))))
      (λ e. refl)

pub trace_honest : (k : ℕ) (T : List ℕ) (p : Place) → Honest T p (trace k T p)
unfolding trace Honest
trace_honest zero T p = tt
trace_honest (suc k) T p = (step_tells T p, trace_honest k T (step_of T p).place)

-- one step more of a row that is being told
pub one_told : (row : List ℕ) (s : Stepped) (more : List Stepped) → row_ends s.answer ≡ 0 → leaves_in row (s ∷ more) ≡ leaves_in (row ++ told_at s.answer s.place.node) more
unfolding leaves_in
one_told row s more h = go s.answer refl h
  where
    go : (a : Answer) → s.answer ≡ a → row_ends a ≡ 0 → leaves_in row (s ∷ more) ≡ leaves_in (row ++ told_at s.answer s.place.node) more
    go Moved e h = rw (e, leaves_in, append-nil row)
    go (Run c w) e h = rw (e, leaves_in)
    go EndRow e h = absurd (omega arith)
    go Done e h = rw (e, leaves_in, append-nil row)
    go (Refused c v) e h = rw (e, leaves_in, append-nil row)

pub end_told : (row : List ℕ) (s : Stepped) (more : List Stepped) → s.answer ≡ EndRow → leaves_in row (s ∷ more) ≡ row ∷ leaves_in [] more
unfolding leaves_in
end_told row s more e = rw (e, leaves_in)

-- the steps of a row, then its end
leaves_then : (row : List ℕ) (us : List Stepped) (q : Place) (more : List Stepped) → tally row_ends (answers_of us) ≡ 0
    → leaves_in row (us ++ (gives EndRow q ∷ more)) ≡ (row ++ standing us) ∷ leaves_in [] more
unfolding standing tally
leaves_then row [] q more h = end_told row (gives EndRow q) more refl ∙ rw (append-nil row)
leaves_then row (u ∷ us) q more h =
    one_told row u (us ++ (gives EndRow q ∷ more)) (omega arith)
    ∙ leaves_then (row ++ told_at u.answer u.place.node) us q more (omega arith)
    ∙ rw (append_assoc row (told_at u.answer u.place.node) (standing us))

module _ (n : ℕ) (T : List ℕ) (acc : Accepted n T) where
  -- each run is told at its own leaf
  stood_from : (k y : ℕ) → y + k ≡ 2 ^ n → EachRow (RowLeaves n T) n y (leaves_in [] (trace (length (rows_walk n (tree_at T n 0) k y)) T (start_at n y)))
  unfolding EachRow rows_walk
  stood_from zero y e = unfold trace leaves_in in omega arith
  stood_from (suc k) y e =
      let h : y < 2 ^ n = omega arith in
      let c = row_crossed n T acc y h in
      let rest : List Answer = rows_walk n (tree_at T n 0) k (y + 1) in
      let unended : tally row_ends (answers_of (trace (length (crossing n (tree_at T n 0) y)) T (start_at n y))) ≡ 0 =
      rw (trace_answers c.walked) (row_no_ends n (tree_at T n 0) y) in
      rw (trace_then c.walked (EndRow ∷ rest), trace_step T (at n 0 n 0 (2 ^ n) y) (start_at n (y + 1)) EndRow (length rest) (row_ended n T acc y h), leaves_then [] _ _ _ unended, c.told)
      (h, row_leaves n T acc y h, stood_from k (y + 1) (omega arith))

  pub demand_met : Demanded n T (trace (length (whole_walk n T)) T (start n))
  demand_met =
      let told = trace_answers (walked_whole n T acc) in
      record {
        honest = trace_honest (length (whole_walk n T)) T (start n);
        rows = rw told (whole_rows n T acc);
        stood = stood_from (2 ^ n) 0 (omega arith);
        moved = rw told (whole_links n T acc);
        ran = rw told (whole_runs n T acc);
        ended = rw told (whole_ends n T acc);
        unbroken = rw told (whole_stops n T acc);
      }

  -- the walk's steps are first those demanded, then Done with the same place for ever
  pub demanded_then_done : (told : List Stepped) × Demanded n T told
      × ((k : ℕ) → trace (length told + k) T (start n) ≡ told ++ replicate k (gives Done (start_at n (2 ^ n))))
  demanded_then_done = (
    _,
    demand_met,
    λ k.
        let j : length (trace (length (whole_walk n T)) T (start n)) + k ≡ length (whole_walk n T ++ replicate k Done) =
        rw (trace_length, length-append, length-replicate) in
        rw j (trace_then (walked_whole n T acc) (replicate k Done) ∙ rw (length-replicate, done_for_ever n T acc k)),
  )

  -- and there is no other walk from the start place to the first Done
  pub walk_exact : (us : List Answer) (q : Place) → Walked T (start n) us q → tally stops us ≡ 0 → (step_of T q).answer ≡ Done → us ≡ whole_walk n T
  walk_exact us q w h e =
      same_walk w (walked_whole n T acc) h (whole_stops n T acc) e (ap (λ (s : Stepped). s.answer) (done n T acc))
