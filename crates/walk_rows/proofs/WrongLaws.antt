-- Walks that demand 3 rules out: one that gives all its runs at once, whatever it does before and after, one whose
-- links are of another number, and one that passes through None or any other number that is no node's.
use mathlib.Core.Bool.{true}
use mathlib.Core.List.Memᴰ
use mathlib.Core.List.{List, [], ◌∷◌, ◌++◌, append-nil}
use mathlib.Core.Logic.{◌⊎◌, inl, inr, ⊎_elim}
use mathlib.Core.Path.{◌≡◌, refl, ap, sym, ◌∙◌}
use Prim.Native.Nat.{ℕ, ◌-◌, ◌*◌, ◌^◌, ◌≤◌, ◌<◌}
use native.Mathlib.Omega.{arith}
use lib.Pow.{pow_pos}
use Rattle.table.specs.Table.{nodes, is_fork}
use Rattle.table.specs.Rules.{Accepted}
use Rattle.table.specs.Nodes.{left_of}
use Rattle.walk.specs.declared.Place.{Place}
use Rattle.walk.specs.declared.Stepped.{Stepped}
use Rattle.walk.specs.declared.Answer.{Answer}
use Rattle.walk.specs.declared.Answer.TheVariants.{Moved, Run, EndRow, Done, Refused}
use Rattle.walk.specs.Walk.{start}
use Rattle.walk_rows.specs.Rows.{In, RowLeaves, EachRow, leaves_in, moves, runs, row_ends, tally, Tells, Honest, answers_of, sides, Demanded}
use Rattle.walk_rows.proofs.PassLaws.{told_at, standing, standing_append}
use Rattle.walk_rows.proofs.LeafLaws.{row_leaves, two_leaves}
use Rattle.walk_rows.proofs.RowLaws.{one_leaves}
use Rattle.walk_rows.proofs.DemandLaws.{one_told, end_told}

-- steps that tell no run
runless : (us : List Stepped) → tally runs (answers_of us) ≡ 0 → standing us ≡ []
unfolding standing tally
runless [] h = refl
runless (u ∷ us) h = go u.answer refl (omega arith) ∙ runless us (omega arith)
  where
    go : (a : Answer) → u.answer ≡ a → runs a ≡ 0 → told_at u.answer u.place.node ++ standing us ≡ standing us
    go Moved e h = rw e
    go (Run c w) e h = absurd (omega arith)
    go EndRow e h = rw e
    go Done e h = rw e
    go (Refused c v) e h = rw e

-- the node of every place but after Moved is that of the place before
stays : (T : List ℕ) (p q : Place) (a : Answer) → moves a ≡ 0 → Tells T p a q → q.node ≡ p.node
stays T p q Moved h t = absurd (omega arith)
stays T p q (Run c w) h t = t.0
stays T p q EndRow h t = t
stays T p q Done h t = t
stays T p q (Refused c v) h t = t

-- so steps without Moved tell their runs at one node
told_one : (a : Answer) (p q : ℕ) → In q (told_at a p) → q ≡ p
told_one Moved p q m = absurd (Memᴰ.not-nil m)
told_one (Run c w) p q m = Memᴰ.eq_of_singleton m
told_one EndRow p q m = absurd (Memᴰ.not-nil m)
told_one Done p q m = absurd (Memᴰ.not-nil m)
told_one (Refused c v) p q m = absurd (Memᴰ.not-nil m)

still : (T : List ℕ) (p : Place) (us vs : List Stepped) → Honest T p (us ++ vs) → tally moves (answers_of us) ≡ 0 → (q : ℕ) → In q (standing us) → q ≡ p.node
unfolding Honest standing tally
still T p [] vs t h q m = absurd (Memᴰ.not-nil m)
still T p (u ∷ us) vs t h q m =
    let e = stays T p u.place u.answer (omega arith) t.0 in
    ⊎_elim
    (λ (i : In q (told_at u.answer u.place.node)). told_one u.answer u.place.node q i ∙ e)
    (λ (i : In q (standing us)). still T u.place us vs t.1 (omega arith) q i ∙ e)
    (Memᴰ.append_cases _ m)

later : (T : List ℕ) (p : Place) (us vs : List Stepped) → Honest T p (us ++ vs) → (q : Place) × Honest T q vs
unfolding Honest
later T p [] vs t = (p, t)
later T p (u ∷ us) vs t = later T u.place us vs t.1

-- from a node of the table each step shows one
shown : (T : List ℕ) (p q : Place) (a : Answer) → p.node < nodes T → Tells T p a q → q.node < nodes T
shown T p q Moved h t = t.1
shown T p q (Run c w) h t = omega arith
shown T p q EndRow h t = omega arith
shown T p q Done h t = omega arith
shown T p q (Refused c v) h t = omega arith

shown_after : (T : List ℕ) (p : Place) (us : List Stepped) (s : Stepped) (vs : List Stepped) → p.node < nodes T → Honest T p (us ++ (s ∷ vs))
    → s.place.node < nodes T
unfolding Honest
shown_after T p [] s vs h t = shown T p s.place s.answer h t.0
shown_after T p (u ∷ us) s vs h t = shown_after T u.place us s vs (shown T p u.place u.answer h t.0) t.1

-- a node of the first row is one where a run was told
in_row : (row : List ℕ) (us : List Stepped) (r : List ℕ) (rs : List (List ℕ)) (q : ℕ) → In q r → leaves_in row us ≡ r ∷ rs → In q row ⊎ In q (standing us)
unfolding standing
in_row row [] r rs q m e = unfold leaves_in in absurd (let z : ◌≡◌ {A = ℕ} 0 1 = cc in omega arith)
in_row row (u ∷ us) r rs q m e =
    go u.answer refl (λ (h : row_ends u.answer ≡ 0). in_row (row ++ told_at u.answer u.place.node) us r rs q m (sym (one_told row u us h) ∙ e))
  where
    place : In q (row ++ told_at u.answer u.place.node) ⊎ In q (standing us) → In q row ⊎ In q (standing (u ∷ us))
    place (inl i) = ⊎_elim inl (λ j. inr (Memᴰ.append_left (standing us) j)) (Memᴰ.append_cases row i)
    place (inr i) = inr (Memᴰ.append_right (told_at u.answer u.place.node) i)

    go : (a : Answer) → u.answer ≡ a → (row_ends u.answer ≡ 0 → In q (row ++ told_at u.answer u.place.node) ⊎ In q (standing us))
        → In q row ⊎ In q (standing (u ∷ us))
    go Moved f ih = place (ih (rw f))
    go (Run c w) f ih = place (ih (rw f))
    go EndRow f ih =
        let w = sym (end_told row u us f) ∙ e in
        let z : r ≡ row = cc in
        inl (rw z at m)
    go Done f ih = place (ih (rw f))
    go (Refused c v) f ih = place (ih (rw f))

module _ (n : ℕ) (T : List ℕ) (told : List Stepped) (d : Demanded n T told) where
  -- the links followed are of one number
  pub link_count : tally moves (answers_of told) ≡ 4 * sides n T - 4 * 2 ^ n
  link_count = omega (arith, d.moved)

  pub invented_fails : (count : ℕ) → (count ≡ 4 * sides n T - 4 * 2 ^ n → ⊥) → tally moves (answers_of told) ≡ count → ⊥
  invented_fails count h e = h (sym e ∙ link_count)

module _ (n : ℕ) (T : List ℕ) (acc : Accepted n T) where
  -- the first row's leaves lie at more than one node, where the root is a fork
  not_one : (k : ℕ) (row : List ℕ) → is_fork T 0 ≡ true → RowLeaves n T 0 row → ((q : ℕ) → In q row → q ≡ k) → ⊥
  not_one k row f r h =
      let pos = pow_pos n in
      let e = one_leaves n T 0 _ row (row_leaves n T acc 0 pos) r in
      let two = two_leaves n T acc 0 pos f in
      let a = h two.0 (rw e at two.2) in
      let b = h two.1 (rw e at two.3) in
      omega (arith, two.4, ap (left_of n T) (a ∙ sym b))

  pub stray_fails : (before : List Stepped) (s : Stepped) (after : List Stepped) → nodes T ≤ s.place.node → Demanded n T (before ++ (s ∷ after)) → ⊥
  stray_fails before s after h d = omega (arith, shown_after T (start n) before s after acc.sized.some d.honest)

  pub at_once_fails : is_fork T 0 ≡ true → (before burst after : List Stepped)
      → tally runs (answers_of before) ≡ 0 → tally moves (answers_of burst) ≡ 0 → tally runs (answers_of after) ≡ 0
      → Demanded n T (before ++ (burst ++ after)) → ⊥
  unfolding EachRow
  at_once_fails f before burst after h i j d = go (leaves_in [] told) refl d.stood
    where
      told : List Stepped
      told = before ++ (burst ++ after)

      at : (q : Place) × Honest T q (burst ++ after)
      at = later T (start n) before (burst ++ after) d.honest

      all_told : standing told ≡ standing burst
      all_told =
          standing_append before (burst ++ after)
          ∙ rw (runless before h) (standing_append burst after ∙ rw (runless after j) (append-nil (standing burst)))

      go : (rows : List (List ℕ)) → leaves_in [] told ≡ rows → EachRow (RowLeaves n T) n 0 rows → ⊥
      go [] e s = omega (arith, pow_pos n)
      go (r ∷ rs) e s =
          not_one at.0.node r f s.1 (λ q m.
          ⊎_elim (λ (k : In q []). absurd (Memᴰ.not-nil k))
          (λ (k : In q (standing told)). still T at.0 burst after at.1 i q (rw all_told at k))
          (in_row [] told r rs q m e))
