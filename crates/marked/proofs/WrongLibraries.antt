-- Wrong libraries, as a C caller would meet them, and the statements of the calls that each breaks (demand 2): one that
-- refuses everything, one that names the same node, distance or place always, one that gives the asked node's level
-- beside the answer's node, one that writes nothing, one that lies half a pixel off. Sheet A is enough to tell.
use Rattle.std.specs.Prelude.{Ok}
use mathlib.Core.List.{List, [], ◌∷◌}
use mathlib.Core.Bool.{true}
use mathlib.Core.Logic.{◌⊎◌, inl, inr}
use mathlib.Core.Path.{◌≡◌, refl, ap, sym, ◌∙◌}
use Prim.Native.Nat.{ℕ, ◌+◌, ◌*◌, ◌/◌, ◌%◌, ◌^◌, ◌<◌}
use native.Mathlib.Omega.{arith}
use lib.ListN.{get_or}
use lib.Ieee.{Float, nan}
use Rattle.base.specs.Tab.{tab_from}
use Rattle.answer.specs.Numbers.{Outcome, answers, number_of, node_in, level_in}
use Rattle.quad.specs.Numbers.{black}
use Rattle.table.specs.Table.{nodes, node_type}
use Rattle.table.specs.Rules.{depth_to}
use Rattle.table.specs.Nodes.{level_of}
use Rattle.table.specs.SheetA.{raster_a, table_a, file_a}
use Rattle.neighbour.proofs.OnSheetA.{on_sheet_a}
use Rattle.ground.specs.declared.Ground.{Ground}
use Rattle.ground.specs.Ground.{whole}
use Rattle.ground.proofs.CentreCall.{place, lent, on-A, whole_apart}
use Rattle.ponds.specs.declared.Pond.{Pond}
use Rattle.ponds.specs.Calls.{FindsInEntries}
use Rattle.sheet.specs.Calls.{Builds, Decodes, FindsNeighbour, FindsCornerLeaf, FindsDiagonalLeaf, FindsDistances, FindsPonds, ReadsFile, WritesFile, FindsCentre}
use Rattle.marked.proofs.Marked.{sheet-A}
use Rattle.marked.proofs.Tied.{given, blank, tied}
use Rattle.marked.proofs.PondsOnSheetA.{numbers_a, ponds_on-A, old, three, entries_a, entries_on-A}

-- the levels of nodes 1, 5 and 6, which the calls are asked
level_1 : level_of 2 table_a 1 ≡ 1
unfolding depth_to
level_1 = refl

level_5 : level_of 2 table_a 5 ≡ 0
unfolding depth_to
level_5 = refl

level_6 : level_of 2 table_a 6 ≡ 0
unfolding depth_to
level_6 = refl

-- a call on a node: its numbers, which always meet its statement
module _ (number : ℕ → List ℕ → ℕ → ℕ → ℕ) (meets : (n : ℕ) (T : List ℕ) (p D : ℕ) → FindsNeighbour n T p D (number n T p D)) where
  pub neighbour_answers : ((n : ℕ) (T : List ℕ) (p D : ℕ) → number n T p D % 256 ≡ 0 → ⊥) → ⊥
  neighbour_answers refuses = refuses 2 table_a 1 1 (omega (arith, tied.b _ (meets 2 table_a 1 1)))

  pub neighbour_names : (m : ℕ) → ((n : ℕ) (T : List ℕ) (p D : ℕ) → number n T p D % 256 ≡ 0 → node_in (number n T p D / 256) ≡ m) → ⊥
  neighbour_names m same =
      let b = tied.b _ (meets 2 table_a 1 1) in
      let e = tied.e _ (meets 2 table_a 1 7) in
      omega (arith, b, e, same 2 table_a 1 1 (omega (arith, b)), same 2 table_a 1 7 (omega (arith, e)))

  -- S of node 6 is larger than 6
  pub neighbour_level_its_own : ((n : ℕ) (T : List ℕ) (p D : ℕ) → number n T p D % 256 ≡ 0 → level_in (number n T p D / 256) ≡ level_of n T p) → ⊥
  neighbour_level_its_own asked =
      let f = tied.f _ (meets 2 table_a 6 2) in
      omega (arith, f, level_6, asked 2 table_a 6 2 (omega (arith, f)))

module _ (number : ℕ → List ℕ → ℕ → ℕ → ℕ → ℕ) (meets : (n : ℕ) (T : List ℕ) (p D C : ℕ) → FindsCornerLeaf n T p D C (number n T p D C)) where
  pub corner_leaf_answers : ((n : ℕ) (T : List ℕ) (p D C : ℕ) → number n T p D C % 256 ≡ 0 → ⊥) → ⊥
  corner_leaf_answers refuses = refuses 2 table_a 1 1 1 (omega (arith, tied.c _ (meets 2 table_a 1 1 1)))

  pub corner_leaf_names : (m : ℕ) → ((n : ℕ) (T : List ℕ) (p D C : ℕ) → number n T p D C % 256 ≡ 0 → node_in (number n T p D C / 256) ≡ m) → ⊥
  corner_leaf_names m same =
      let c = tied.c _ (meets 2 table_a 1 1 1) in
      let d = tied.d _ (meets 2 table_a 1 1 3) in
      omega (arith, c, d, same 2 table_a 1 1 1 (omega (arith, c)), same 2 table_a 1 1 3 (omega (arith, d)))

  -- leaf 3 is smaller than node 1
  pub corner_leaf_level_its_own : ((n : ℕ) (T : List ℕ) (p D C : ℕ) → number n T p D C % 256 ≡ 0 → level_in (number n T p D C / 256) ≡ level_of n T p) → ⊥
  corner_leaf_level_its_own asked =
      let c = tied.c _ (meets 2 table_a 1 1 1) in
      omega (arith, c, level_1, asked 2 table_a 1 1 1 (omega (arith, c)))

module _ (number : ℕ → List ℕ → ℕ → ℕ → ℕ) (meets : (n : ℕ) (T : List ℕ) (p C : ℕ) → FindsDiagonalLeaf n T p C (number n T p C)) where
  beyond : number 2 table_a 1 3 ≡ 256 * (8 * 8 + 1)
  beyond = given _ _ _ (meets 2 table_a 1 3) (rw on_sheet_a.beyond)

  across : number 2 table_a 5 1 ≡ 256 * (4 * 8 + 0)
  across = given _ _ _ (meets 2 table_a 5 1) (rw on_sheet_a.across)

  larger : number 2 table_a 5 2 ≡ 256 * (7 * 8 + 1)
  larger = given _ _ _ (meets 2 table_a 5 2) (rw on_sheet_a.larger)

  pub diagonal_leaf_answers : ((n : ℕ) (T : List ℕ) (p C : ℕ) → number n T p C % 256 ≡ 0 → ⊥) → ⊥
  diagonal_leaf_answers refuses = refuses 2 table_a 1 3 (omega (arith, beyond))

  pub diagonal_leaf_names : (m : ℕ) → ((n : ℕ) (T : List ℕ) (p C : ℕ) → number n T p C % 256 ≡ 0 → node_in (number n T p C / 256) ≡ m) → ⊥
  diagonal_leaf_names m same = omega (arith, beyond, across, same 2 table_a 1 3 (omega (arith, beyond)), same 2 table_a 5 1 (omega (arith, across)))

  -- leaf 7 is larger than node 5
  pub diagonal_leaf_level_its_own : ((n : ℕ) (T : List ℕ) (p C : ℕ) → number n T p C % 256 ≡ 0 → level_in (number n T p C / 256) ≡ level_of n T p) → ⊥
  diagonal_leaf_level_its_own asked = omega (arith, larger, level_5, asked 2 table_a 5 2 (omega (arith, larger)))

-- a call that fills a buffer: its numbers and what it leaves
module _ (number : ℕ → List ℕ → List ℕ → ℕ) (after : ℕ → List ℕ → List ℕ → List ℕ) where
  module _ (meets : (n : ℕ) (T before : List ℕ) → FindsDistances n T before (number n T before) (after n T before)) where
    -- sheet A, in nine words
    nine : number 2 table_a (blank 9) ≡ 0
    unfolding tab_from
    nine = (meets 2 table_a (blank 9)).number ∙ sheet-A.distances

    at_1 : get_or (after 2 table_a (blank 9)) 1 0 ≡ 2
    at_1 = tied.i_1 _ _ (meets 2 table_a (blank 9))

    pub distance_answers : ((n : ℕ) (T before : List ℕ) → number n T before % 256 ≡ 0 → ⊥) → ⊥
    distance_answers refuses = refuses 2 table_a (blank 9) (omega (arith, nine))

    -- it gives every black leaf one distance, wherever it answers
    pub distance_not_one : (v : ℕ)
        → ((n : ℕ) (T before : List ℕ) → number n T before % 256 ≡ 0 → (p : ℕ) → p < nodes T → node_type T p ≡ black → get_or (after n T before) p 0 ≡ v) → ⊥
    distance_not_one v same =
        let one = same 2 table_a (blank 9) (omega (arith, nine)) in
        omega (arith, at_1, tied.i_6 _ _ (meets 2 table_a (blank 9)), one 1 (omega arith) refl, one 6 (omega arith) refl)

    pub distance_writes : ((n : ℕ) (T before : List ℕ) → after n T before ≡ before) → ⊥
    unfolding tab_from
    distance_writes idle = omega (arith, at_1, ap (λ (l : List ℕ). get_or l 1 0) (idle 2 table_a (blank 9)))

  module _ (meets : (n : ℕ) (R before : List ℕ) → Builds n R before (number n R before) (after n R before)) where
    pub build_answers : ((n : ℕ) (R before : List ℕ) → number n R before % 256 ≡ 0 → ⊥) → ⊥
    unfolding tab_from
    build_answers refuses = refuses 2 raster_a (blank 54) (omega (arith, (meets 2 raster_a (blank 54)).number ∙ sheet-A.building))

    pub build_writes : ((n : ℕ) (R before : List ℕ) → after n R before ≡ before) → ⊥
    unfolding tab_from
    build_writes idle =
        let is : after 2 raster_a (blank 54) ≡ table_a = (meets 2 raster_a (blank 54)).buffer ∙ sheet-A.built in
        omega (arith, ap (λ (l : List ℕ). get_or l 1 0) (sym is ∙ idle 2 raster_a (blank 54)))

  module _ (meets : (n : ℕ) (T before : List ℕ) → Decodes n T before (number n T before) (after n T before)) where
    pub decode_answers : ((n : ℕ) (T before : List ℕ) → number n T before % 256 ≡ 0 → ⊥) → ⊥
    unfolding tab_from
    decode_answers refuses = refuses 2 table_a (blank 16) (omega (arith, (meets 2 table_a (blank 16)).number ∙ sheet-A.decoding))

    pub decode_writes : ((n : ℕ) (T before : List ℕ) → after n T before ≡ before) → ⊥
    unfolding tab_from
    decode_writes idle =
        let is : after 2 table_a (blank 16) ≡ raster_a = (meets 2 table_a (blank 16)).buffer ∙ sheet-A.decoded in
        omega (arith, ap (λ (l : List ℕ). get_or l 0 0) (sym is ∙ idle 2 table_a (blank 16)))

  module _ (meets : (n : ℕ) (T before : List ℕ) → WritesFile n T before (number n T before) (after n T before)) where
    pub write_answers : ((n : ℕ) (T before : List ℕ) → number n T before % 256 ≡ 0 → ⊥) → ⊥
    unfolding tab_from
    write_answers refuses = refuses 2 table_a (blank 32) (omega (arith, (meets 2 table_a (blank 32)).number ∙ sheet-A.writing))

    pub write_writes : ((n : ℕ) (T before : List ℕ) → after n T before ≡ before) → ⊥
    unfolding tab_from
    write_writes idle =
        let is : after 2 table_a (blank 32) ≡ file_a = (meets 2 table_a (blank 32)).buffer ∙ sheet-A.written in
        omega (arith, ap (λ (l : List ℕ). get_or l 0 0) (sym is ∙ idle 2 table_a (blank 32)))

-- the ponds' call, which is lent two slices
module _ (number : ℕ → List ℕ → List ℕ → List ℕ → ℕ) (numbers' reg' : ℕ → List ℕ → List ℕ → List ℕ → List ℕ)
    (meets : (n : ℕ) (T numbers reg : List ℕ) → FindsPonds n T numbers reg (number n T numbers reg) (numbers' n T numbers reg) (reg' n T numbers reg)) where
  -- sheet A, in nine words and twelve
  two : number 2 table_a (blank 9) (blank 12) ≡ 256 * 2
  two = (ponds_on-A _ _ _ (meets 2 table_a (blank 9) (blank 12))).0

  numbers : numbers' 2 table_a (blank 9) (blank 12) ≡ numbers_a
  numbers = (ponds_on-A _ _ _ (meets 2 table_a (blank 9) (blank 12))).1

  pub ponds_answers : ((n : ℕ) (T numbers reg : List ℕ) → number n T numbers reg % 256 ≡ 0 → ⊥) → ⊥
  ponds_answers refuses = refuses 2 table_a (blank 9) (blank 12) (omega (arith, two))

  -- it gives every black leaf one number, wherever it answers: the two ponds of the story as one
  pub ponds_not_one : (v : ℕ)
      → ((n : ℕ) (T numbers reg : List ℕ) → number n T numbers reg % 256 ≡ 0 → (p : ℕ) → p < nodes T → node_type T p ≡ black → get_or (numbers' n T numbers reg) p 0 ≡ v) → ⊥
  ponds_not_one v same =
      let one = same 2 table_a (blank 9) (blank 12) (omega (arith, two)) in
      let at : (p : ℕ) → get_or (numbers' 2 table_a (blank 9) (blank 12)) p 0 ≡ get_or numbers_a p 0 = λ p. ap (λ (l : List ℕ). get_or l p 0) numbers in
      omega (arith, at 1, at 6, one 1 (omega arith) refl, one 6 (omega arith) refl)

  -- it writes no number, or no entry
  pub ponds_numbers : ((n : ℕ) (T numbers reg : List ℕ) → numbers' n T numbers reg ≡ numbers) → ⊥
  unfolding tab_from
  ponds_numbers idle = omega (arith, ap (λ (l : List ℕ). get_or l 0 0) (sym numbers ∙ idle 2 table_a (blank 9) (blank 12)))

  pub ponds_register : ((n : ℕ) (T numbers reg : List ℕ) → reg' n T numbers reg ≡ reg) → ⊥
  unfolding tab_from
  ponds_register idle =
      let is = (ponds_on-A _ _ _ (meets 2 table_a (blank 9) (blank 12))).2 in
      omega (arith, ap (λ (l : List ℕ). get_or l 0 0) (sym is ∙ idle 2 table_a (blank 9) (blank 12)))

-- the same call on structs, for callers in Rattle
module _ (outcome : ℕ → List ℕ → List ℕ → List Pond → Outcome) (numbers' : ℕ → List ℕ → List ℕ → List Pond → List ℕ) (reg' : ℕ → List ℕ → List ℕ → List Pond → List Pond)
    (meets : (n : ℕ) (T numbers : List ℕ) (reg : List Pond) → FindsInEntries n T numbers reg (outcome n T numbers reg) (numbers' n T numbers reg) (reg' n T numbers reg)) where
  found : (outcome 2 table_a (blank 9) three ≡ Ok 2) × (numbers' 2 table_a (blank 9) three ≡ numbers_a) × (reg' 2 table_a (blank 9) three ≡ entries_a)
  found = entries_on-A _ _ _ (meets 2 table_a (blank 9) three)

  pub entries_answers : ((n : ℕ) (T numbers : List ℕ) (reg : List Pond) → answers (outcome n T numbers reg) ≡ true → ⊥) → ⊥
  entries_answers refuses = refuses 2 table_a (blank 9) three (ap answers found.0)

  pub entries_not_one : (v : ℕ)
      → ((n : ℕ) (T numbers : List ℕ) (reg : List Pond) → answers (outcome n T numbers reg) ≡ true
      → (p : ℕ) → p < nodes T → node_type T p ≡ black → get_or (numbers' n T numbers reg) p 0 ≡ v) → ⊥
  entries_not_one v same =
      let one = same 2 table_a (blank 9) three (ap answers found.0) in
      let at : (p : ℕ) → get_or (numbers' 2 table_a (blank 9) three) p 0 ≡ get_or numbers_a p 0 = λ p. ap (λ (l : List ℕ). get_or l p 0) found.1 in
      omega (arith, at 1, at 6, one 1 (omega arith) refl, one 6 (omega arith) refl)

  pub entries_numbers : ((n : ℕ) (T numbers : List ℕ) (reg : List Pond) → numbers' n T numbers reg ≡ numbers) → ⊥
  unfolding tab_from
  entries_numbers idle = omega (arith, ap (λ (l : List ℕ). get_or l 0 0) (sym found.1 ∙ idle 2 table_a (blank 9) three))

  pub entries_register : ((n : ℕ) (T numbers : List ℕ) (reg : List Pond) → reg' n T numbers reg ≡ reg) → ⊥
  entries_register idle = omega (arith, ap (λ (l : List Pond). (get_or l 0 old).pixels) (sym found.2 ∙ idle 2 table_a (blank 9) three))

module _ (number : List ℕ → List ℕ → ℕ) (after : List ℕ → List ℕ → List ℕ) (meets : (s before : List ℕ) → ReadsFile s before (number s before) (after s before)) where
  pub read_answers : ((s before : List ℕ) → number s before % 256 ≡ 0 → ⊥) → ⊥
  unfolding tab_from
  read_answers refuses = refuses file_a (blank 54) (omega (arith, (meets file_a (blank 54)).number ∙ sheet-A.reading))

  -- nothing is no file
  pub read_not_all : ((s before : List ℕ) → number s before % 256 ≡ 0) → ⊥
  read_not_all accepts = omega (arith, tied.l _ _ (meets [] []), accepts [] [])

  pub read_writes : ((s before : List ℕ) → after s before ≡ before) → ⊥
  unfolding tab_from
  read_writes idle =
      let is : after file_a (blank 54) ≡ table_a = (meets file_a (blank 54)).buffer ∙ sheet-A.read in
      omega (arith, ap (λ (l : List ℕ). get_or l 1 0) (sym is ∙ idle file_a (blank 54)))

-- the centre's call: numbers, and slices of numbers of the ground
module _ (number : ℕ → List ℕ → ℕ → Ground → List Float → ℕ) (after : ℕ → List ℕ → ℕ → Ground → List Float → List Float)
    (meets : (n : ℕ) (T : List ℕ) (p : ℕ) (g : Ground) (before : List Float) → FindsCentre n T p g before (number n T p g before) (after n T p g before)) where
  first : (number 2 table_a 1 place lent ≡ 0) × (after 2 table_a 1 place lent ≡ whole 1005 ∷ whole 1995 ∷ whole 7 ∷ [])
  first = tied.origin _ _ (meets 2 table_a 1 place lent)

  second : number 2 table_a 2 place lent ≡ 0
  second = (meets 2 table_a 2 place lent).number ∙ ap number_of on-A.answered_2

  -- node 1 lies at 1005 and 1995, so not where east or north is another whole number
  elsewhere : (l : List Float) → after 2 table_a 1 place lent ≡ l → (x y : ℕ) → x < 2 ^ 32 → y < 2 ^ 32
      → (get_or l 0 nan ≡ whole x → x ≡ 1005) × (get_or l 1 nan ≡ whole y → y ≡ 1995)
  elsewhere l e x y hx hy = (
    λ h. whole_apart x 1005 hx (omega arith) (sym h ∙ ap (λ (k : List Float). get_or k 0 nan) (sym e ∙ first.1)),
    λ h. whole_apart y 1995 hy (omega arith) (sym h ∙ ap (λ (k : List Float). get_or k 1 nan) (sym e ∙ first.1)),
  )

  pub centre_answers : ((n : ℕ) (T : List ℕ) (p : ℕ) (g : Ground) (before : List Float) → number n T p g before % 256 ≡ 0 → ⊥) → ⊥
  centre_answers refuses = refuses 2 table_a 1 place lent (omega (arith, first.0))

  -- it gives every node one place, wherever it answers
  pub centre_not_one : ((n : ℕ) (T : List ℕ) (p q : ℕ) (g : Ground) (before : List Float)
      → number n T p g before % 256 ≡ 0 → number n T q g before % 256 ≡ 0 → after n T p g before ≡ after n T q g before) → ⊥
  centre_not_one same =
      let e = same 2 table_a 1 2 place lent (omega (arith, first.0)) (omega (arith, second)) in
      omega (arith, (elsewhere _ (e ∙ (meets 2 table_a 2 place lent).buffer ∙ on-A.node_2) 1025 1995 (omega arith) (omega arith)).0 refl)

  pub centre_writes : ((n : ℕ) (T : List ℕ) (p : ℕ) (g : Ground) (before : List Float) → after n T p g before ≡ before) → ⊥
  centre_writes idle = omega (arith, (elsewhere _ (idle 2 table_a 1 place lent) 0 0 (omega arith) (omega arith)).0 refl)

  -- it takes the place for the outer corner: half a pixel to the east, or to the south
  pub centre_not_corner : (get_or (after 2 table_a 1 place lent) 0 nan ≡ whole 1010) ⊎ (get_or (after 2 table_a 1 place lent) 1 nan ≡ whole 1990) → ⊥
  centre_not_corner (inl east) = omega (arith, (elsewhere _ refl 1010 1990 (omega arith) (omega arith)).0 east)
  centre_not_corner (inr south) = omega (arith, (elsewhere _ refl 1010 1990 (omega arith) (omega arith)).1 south)
