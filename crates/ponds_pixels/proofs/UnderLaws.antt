-- What the leaves in and under a node give each pond: a leaf gives its block, a fork what its sons give one after the
-- other, in any order the same; under the root it is the ponds' entries. No pond has more pixels under a node than the
-- node's block.
use mathlib.Core.Bool.{true, false}
use mathlib.Core.List.{List}
use mathlib.Core.Logic.{⊎_elim}
use mathlib.Core.Path.{◌≡◌, refl, ap, sym, ◌∙◌}
use Prim.Native.Nat.{ℕ, zero, suc, ◌+◌, ◌-◌, ◌*◌, ◌/◌, ◌%◌, ◌^◌, ◌≤◌, ◌<◌, min, max}
use native.Mathlib.Nat.{add_comm, pow-succ', pow-le-pow_right, mul-le-mul, le_trans, min-le_left, min-eq_right}
use native.Mathlib.Numerals.{add-one}
use native.Mathlib.Omega.{arith}
use lib.Dec.{eqb}
use lib.ListN.{length, get_or, replicate}
use borrow.Author.Tests.{ne_eqb}
use Rattle.base.proofs.BoolLaws.{by_bool}
use Rattle.base.proofs.CaseLaws.{cond_case}
use Rattle.base.specs.Tab.{overlay}
use Rattle.base.proofs.LeastLaws.{least_top}
use Rattle.base.proofs.PowLaws.{four_pow, pow_less}
use Rattle.quad.specs.Block.{column, row}
use Rattle.quad.specs.Numbers.{top_level, none}
use Rattle.table.specs.declared.Block.{Block}
use Rattle.table.specs.Table.{nodes, son, is_fork}
use Rattle.table.specs.Rules.{Accepted, AtLevel}
use Rattle.table.specs.Nodes.{path_to, level_of, side_of}
use Rattle.table.specs.Blocks.{block_of}
use Rattle.table.proofs.RuleLaws.{depth_root}
use Rattle.table.proofs.NodeLaws.{path_root}
use Rattle.table.proofs.AcceptedLaws.{depth_son, sons_of, fork_above, son_at, depth_le}
use Rattle.table.proofs.BlockLaws.{OnSheet, on_sheet}
use Rattle.table.proofs.HolderLaws.{path_son}
use Rattle.ponds.specs.declared.Pond.{Pond}
use Rattle.ponds.specs.Entries.{entry_of, entries, words_of}
use Rattle.ponds_entry.specs.Gathered.{empty_pond, grown_of, grown_at, Fitting, Numbers}
use Rattle.ponds_entry.specs.Words.{register_of, passed_of, Passing}
use Rattle.ponds_entry.specs.Under.{block_from, quarter_of, Parted, fold_under, if_has, pixels_of, first_row, last_row, first_column, last_column, under_of, together, with_under, Entering, Entered}
use Rattle.ponds_entry.proofs.GrownLaws.{first_fits}
use Rattle.ponds_entry.proofs.EntryLaws.{same_pond, over_nodes, gathered_over, gathered_entry}
use Rattle.ponds_pixels.proofs.FoldLaws.{fold_leaf, fold_fork, sum_under, least_under, greatest_under}
use Rattle.ponds_entry.proofs.WordLaws.{register_passing, register_passed, register_same, register_empty, register_entries}

min_on : (a b c : ℕ) → min (min a b) c ≡ min a (min b c)
min_on a b c = omega arith

max_on : (a b c : ℕ) → max (max a b) c ≡ max a (max b c)
max_on a b c = omega arith

four_min : (e a b c d : ℕ) → min (min (min (min e a) b) c) d ≡ min e (min (min (min a b) c) d)
four_min e a b c d = rw (min_on e a b, min_on e (min a b) c, min_on e (min (min a b) c) d)

four_max : (e a b c d : ℕ) → max (max (max (max e a) b) c) d ≡ max e (max (max (max a b) c) d)
four_max e a b c d = rw (max_on e a b, max_on e (max a b) c, max_on e (max (max a b) c) d)

module _ (n : ℕ) (T numbers : List ℕ) where
  -- a node's first row or column is no more than what an empty entry has
  first_low : Accepted n T → (p : ℕ) → p < nodes T → (k i : ℕ) → i < 2 ^ top_level → if_has numbers k p (i * side_of n T p) none ≤ none
  first_low acc p lt k i h =
      let on = on_sheet (record { accepted = acc; node = lt }) in
      cond_case (λ (v : ℕ). v ≤ none) (eqb (get_or numbers p 0) k) _ _ (λ e. omega (arith, first_fits (level_of n T p) _ on.level refl i h)) (λ e. omega arith)

  -- under the root
  module _ (count k : ℕ) (s : Numbers n T numbers count) (pos : 0 < k) where
    fork_none : (p : ℕ) → p < nodes T → is_fork T p ≡ true → (v w : ℕ) → if_has numbers k p v w ≡ w
    fork_none p lt f v w = rw (ne_eqb (get_or numbers p 0) k (λ e. omega (arith, s.forks p lt f)))

    pub under_root : under_of n T numbers n 0 k ≡ entry_of n T numbers k
    unfolding under_of over_nodes
    under_root =
        let acc = s.accepted in
        let on : (p : ℕ) (lt : p < nodes T) → OnSheet n T p = λ p lt. on_sheet (record { accepted = acc; node = lt }) in
        same_pond (under_of n T numbers n 0 k) (over_nodes n T numbers k (nodes T))
        (sum_under n T acc (pixels_of n T numbers k) (λ p lt f. fork_none p lt f _ 0))
        (least_under n T acc none (first_row n T numbers k) (λ p lt. first_low acc p lt k _ (on p lt).row) (λ p lt f. fork_none p lt f _ none))
        (greatest_under n T acc (last_row n T numbers k) (λ p lt f. fork_none p lt f _ 0))
        (least_under n T acc none (first_column n T numbers k) (λ p lt. first_low acc p lt k _ (on p lt).column) (λ p lt f. fork_none p lt f _ none))
        (greatest_under n T acc (last_column n T numbers k) (λ p lt f. fork_none p lt f _ 0))
        ∙ (sym (gathered_over n T numbers k (nodes T)) ∙ gathered_entry n T numbers k count s pos)

  -- a leaf gives its block
  leaf_gives : (l p k : ℕ) (E : ℕ → Pond) → is_fork T p ≡ false → (E k).top ≤ none → (E k).left ≤ none
      → grown_at (get_or numbers p 0) (block_of n T p) E k ≡ with_under n T numbers l p E k
  unfolding under_of together grown_of block_of
  leaf_gives l p k E f t w =
      let at : (op : ℕ → ℕ → ℕ) (g : ℕ → ℕ) → fold_under op g T l p ≡ g p = λ op g. fold_leaf op g T l p f in
      rw (
        at ◌+◌ (pixels_of n T numbers k),
        at min (first_row n T numbers k),
        at max (last_row n T numbers k),
        at min (first_column n T numbers k),
        at max (last_column n T numbers k),
      )
      (⊎_elim
      (λ (e : eqb (get_or numbers p 0) k ≡ true). rw e)
      (λ (e : eqb (get_or numbers p 0) k ≡ false). rw e (same_pond _ _ (omega arith) (omega arith) (omega arith) (omega arith) (omega arith)))
      (by_bool (eqb (get_or numbers p 0) k)))

  -- the entries with what the first q sons of p give
  unfoldable pub gained : ℕ → ℕ → (ℕ → Pond) → ℕ → ℕ → Pond
  gained l p E zero = E
  gained l p E (suc q) = with_under n T numbers l (son T p q) (gained l p E q)

  -- a fork gives what its four sons give
  fork_gives : (l p k : ℕ) (E : ℕ → Pond) → is_fork T p ≡ true → gained l p E 4 k ≡ with_under n T numbers (suc l) p E k
  unfolding under_of together gained
  fork_gives l p k E f =
      let at : (op : ℕ → ℕ → ℕ) (g : ℕ → ℕ) → fold_under op g T (suc l) p
      ≡ op (op (op (fold_under op g T l (son T p 0)) (fold_under op g T l (son T p 1))) (fold_under op g T l (son T p 2))) (fold_under op g T l (son T p 3)) =
      λ op g. fold_fork op g T l p f in
      rw (
        at ◌+◌ (pixels_of n T numbers k),
        at min (first_row n T numbers k),
        at max (last_row n T numbers k),
        at min (first_column n T numbers k),
        at max (last_column n T numbers k),
      )
      (same_pond _ _ (omega arith) (four_min _ _ _ _ _) (four_max _ _ _ _ _) (four_min _ _ _ _ _) (four_max _ _ _ _ _))

  -- no more pixels than the block
  few_own : (k l p : ℕ) → AtLevel n T p l → pixels_of n T numbers k p ≤ 4 ^ l
  few_own k l p z =
      let e : level_of n T p ≡ l = omega (arith, z.level) in
      cond_case (λ (v : ℕ). v ≤ 4 ^ l) (eqb (get_or numbers p 0) k) _ _ (λ h. rw (e, four_pow l) (omega arith)) (λ h. omega arith)

  few_fold : (k l p : ℕ) → AtLevel n T p l → fold_under ◌+◌ (pixels_of n T numbers k) T l p ≤ 4 ^ l
  unfolding fold_under
  few_fold k zero p z = few_own k 0 p z
  few_fold k (suc l) p z =
      cond_case (λ (v : ℕ). v ≤ 4 ^ suc l) (is_fork T p) _ _
      (λ f.
      let e : suc l - 1 ≡ l = omega arith in
      let few : (q : ℕ) → q < 4 → fold_under ◌+◌ (pixels_of n T numbers k) T l (son T p q) ≤ 4 ^ l =
      λ q q4. few_fold k l (son T p q) (rw e at (son_at z f q q4)) in
      omega (arith, pow-succ' 4 l, few 0 (omega arith), few 1 (omega arith), few 2 (omega arith), few 3 (omega arith)))
      (λ f. few_own k (suc l) p z)

  module _ (l p k : ℕ) (E : ℕ → Pond) where
    gained_top : (q : ℕ) → (E k).top ≤ none → (gained l p E q k).top ≤ none
    unfolding gained together
    gained_top zero h = h
    gained_top (suc q) h = le_trans (min-le_left _ _) (gained_top q h)

    gained_left : (q : ℕ) → (E k).left ≤ none → (gained l p E q k).left ≤ none
    unfolding gained together
    gained_left zero h = h
    gained_left (suc q) h = le_trans (min-le_left _ _) (gained_left q h)

    gained_few : AtLevel n T p (suc l) → is_fork T p ≡ true → (q : ℕ) → q ≤ 4 → (gained l p E q k).pixels ≤ (E k).pixels + q * 4 ^ l
    unfolding gained together under_of
    gained_few z f zero h = omega arith
    gained_few z f (suc q) h =
        let e : suc l - 1 ≡ l = omega arith in
        omega (arith, gained_few z f q (omega arith), few_fold k l (son T p q) (rw e at (son_at z f q h)))

-- a quadrant of a fork's block is its son's
sheet_block : (n : ℕ) (T : List ℕ) → Accepted n T → block_from 0 0 n ≡ block_of n T 0
unfolding block_of column row
sheet_block n T acc = let e : n - 0 ≡ n = omega arith in rw (path_root T n, depth_root T n, e)

pub part_block : (n : ℕ) (T : List ℕ) (p q : ℕ) → Accepted n T → p < nodes T → is_fork T p ≡ true → q < 4 → quarter_of (block_of n T p) q ≡ block_of n T (son T p q)
unfolding block_of column row
part_block n T p q acc lt f q4 =
    let d = depth_son n T acc p q lt f q4 in
    let e : level_of n T (son T p q) ≡ level_of n T p - 1 = omega arith in
    let c = add_comm (2 * column (path_to T n p)) (q % 2) in
    let r = add_comm (2 * row (path_to T n p)) (q / 2) in
    rw (path_son n T acc p q lt f q4, e, c, r)

-- node p, whose block is b, while its leaves are passed
module _ {T numbers : List ℕ} {p : ℕ} {b : Block} {words : List ℕ} (z : Entering T numbers p b words) where
  level_of_lem : b.level ≡ level_of z.n T p
  unfolding block_of
  level_of_lem = ap (λ (c : Block). c.level) z.block

  pub entering_at : AtLevel z.n T p b.level
  entering_at = record { accepted = z.told.accepted; node = z.node; level = omega (arith, level_of_lem, depth_le T z.n p) }

  pub fits : (k : ℕ) → Fitting (z.E k) b
  unfolding block_of
  fits k =
      let on = on_sheet (record { accepted = z.told.accepted; node = z.node }) in
      record {
        room = omega (arith, z.room k);
        level = omega (arith, level_of_lem, on.level);
        column = rw z.block on.column;
        row = rw z.block on.row;
      }

  pub number_there : p < length numbers
  number_there = omega (arith, z.node, z.told.words)

  pub entering_passing : Passing b (get_or numbers p 0) words
  entering_passing = rw z.stands (register_passing z.count z.before z.E z.long b (get_or numbers p 0) (z.told.few p z.node) (fits (get_or numbers p 0)))

  -- a leaf that has been passed
  pub leaf_entered : (words' : List ℕ) → is_fork T p ≡ false → words' ≡ passed_of b (get_or numbers p 0) words
      → words' ≡ register_of z.count z.before (with_under z.n T numbers b.level p z.E)
  leaf_entered words' f e =
      e
      ∙ (ap (passed_of b (get_or numbers p 0)) z.stands
      ∙ (register_passed z.count z.before z.E z.long b (get_or numbers p 0) (z.told.few p z.node)
      ∙ register_same z.count z.before (grown_at (get_or numbers p 0) b z.E) (with_under z.n T numbers b.level p z.E)
      (λ k pos.
      ap (λ (c : Block). grown_at (get_or numbers p 0) c z.E k) z.block
      ∙ leaf_gives z.n T numbers b.level p k z.E f (z.top k) (z.left k))))

  -- a pixel is a leaf
  pub pixel_entered : (words' : List ℕ) → b.level ≡ 0 → words' ≡ passed_of b (get_or numbers p 0) words
      → words' ≡ register_of z.count z.before (with_under z.n T numbers b.level p z.E)
  pixel_entered words' low e =
      ⊎_elim
      (λ (f : is_fork T p ≡ true). absurd (omega (arith, fork_above entering_at f)))
      (λ (f : is_fork T p ≡ false). leaf_entered words' f e)
      (by_bool (is_fork T p))

  module _ (f : is_fork T p ≡ true) where
    pub parted : Parted b
    parted = record { level = fork_above entering_at f; column = (fits 0).column; row = (fits 0).row }

-- its block's level by another name
module _ {T numbers : List ℕ} {p : ℕ} {b : Block} {words : List ℕ} {l : ℕ} (e : b.level ≡ l) where
  pub at_level : Entering T numbers p b words → Entering T numbers p (block_from b.column b.row l) words
  at_level z = rw (← e) z

  pub level_entered : {words' : List ℕ} → Entered T numbers p (block_from b.column b.row l) words words' → Entered T numbers p b words words'
  level_entered h = rw (← e) at h

-- a fork p, whose first q sons have been passed
abbrev pub Gained : List ℕ → List ℕ → ℕ → Block → List ℕ → ℕ → List ℕ → Type 0
Gained T numbers p b words q words' =
    (z : Entering T numbers p b words) → words' ≡ register_of z.count z.before (gained z.n T numbers (b.level - 1) p z.E q)

pub gained_none : {T numbers : List ℕ} {p : ℕ} {b : Block} {words : List ℕ} → Gained T numbers p b words 0 words
unfolding gained
gained_none z = z.stands

module _ {T numbers : List ℕ} {p : ℕ} {b : Block} {words : List ℕ} (f : is_fork T p ≡ true) where
  module _ (q s : ℕ) (its : Block) (words' : List ℕ) (q4 : q < 4) (es : s ≡ son T p q) (ei : its ≡ quarter_of b q) (g : Gained T numbers p b words q words') where
    son_in : Entering T numbers p b words → Entering T numbers (son T p q) (quarter_of b q) words'
    son_in z =
        let acc = z.told.accepted in
        let l : ℕ = b.level - 1 in
        let up : b.level ≡ suc l = omega (arith, fork_above (entering_at z) f) in
        let at : AtLevel z.n T p (suc l) = rw up at (entering_at z) in
        record {
          n = z.n;
          count = z.count;
          before = z.before;
          E = gained z.n T numbers l p z.E q;
          told = z.told;
          node = (sons_of z.n T acc p z.node f q q4).below;
          block = ap (λ (c : Block). quarter_of c q) z.block ∙ part_block z.n T p q acc z.node f q4;
          long = z.long;
          stands = g z;
          top = λ k. gained_top z.n T numbers l p k z.E q (z.top k);
          left = λ k. gained_left z.n T numbers l p k z.E q (z.left k);
          room = λ k.
              let few = gained_few z.n T numbers l p k z.E at f q (omega arith) in
              let three : q * 4 ^ l ≤ 3 * 4 ^ l = mul-le-mul {n₂ = 3} {m₂ = 4 ^ l} (omega arith) (omega arith) in
              omega (arith, few, three, z.room k, pow_less 4 b.level (omega arith));
        }

    pub son_entering : Entering T numbers p b words → Entering T numbers s its words'
    son_entering z = rw (es, ei) (son_in z)

    pub gained_more : (words'' : List ℕ) → Entered T numbers s its words' words'' → Gained T numbers p b words (q + 1) words''
    unfolding gained son_in
    gained_more words'' h z =
        let son : Entered T numbers (son T p q) (quarter_of b q) words' words'' = rw (es, ei) at h in
        rw (add-one q) (son (son_in z))

  pub gained_all : (q : ℕ) (words' : List ℕ) → q ≤ 4 → 4 ≤ q → Gained T numbers p b words q words' → Entered T numbers p b words words'
  gained_all q words' le ge g z =
      let l : ℕ = b.level - 1 in
      let up : suc l ≡ b.level = omega (arith, fork_above (entering_at z) f) in
      let four : q ≡ 4 = omega arith in
      g z
      ∙ register_same z.count z.before (gained z.n T numbers l p z.E q) (with_under z.n T numbers b.level p z.E)
      (λ k pos.
      ap (λ (j : ℕ). gained z.n T numbers l p z.E j k) four
      ∙ (fork_gives z.n T numbers l p k z.E f ∙ ap (λ (m : ℕ). with_under z.n T numbers m p z.E k) up))

-- the whole sheet, from a cleared register
module _ {n : ℕ} {T numbers : List ℕ} {count : ℕ} (s : Numbers n T numbers count) where
  empty_with : (k : ℕ) → 0 < k → with_under n T numbers n 0 (λ j. empty_pond) k ≡ entry_of n T numbers k
  unfolding together entry_of
  empty_with k pos =
      rw (under_root n T numbers count k s pos)
      (same_pond _ _ (omega arith) (min-eq_right (least_top none _ (4 ^ n))) (omega arith) (min-eq_right (least_top none _ (4 ^ n))) (omega arith))

  module _ (old words : List ℕ) (room : 5 * count ≤ length old) (cleared : words ≡ overlay (words_of (replicate count empty_pond)) old) where
    pub sheet_entering : Entering T numbers 0 (block_from 0 0 n) words
    sheet_entering = record {
      n = n;
      count = count;
      before = old;
      E = λ k. empty_pond;
      told = s;
      node = s.accepted.sized.some;
      block = sheet_block n T s.accepted;
      long = room;
      stands = cleared ∙ register_empty count old;
      top = λ k. omega arith;
      left = λ k. omega arith;
      room = λ k. omega (arith, pow-le-pow_right {n = 4} (omega arith) {i = n} {j = top_level} s.accepted.sized.level);
    }

    pub sheet_filled : (out : List ℕ) → Entered T numbers 0 (block_from 0 0 n) words out → out ≡ overlay (words_of (entries n T numbers count)) old
    unfolding sheet_entering
    sheet_filled out h =
        h sheet_entering
        ∙ (register_same count old (with_under n T numbers n 0 (λ k. empty_pond)) (entry_of n T numbers) empty_with ∙ register_entries n T numbers count old)

-- a pixel by its number
module _ {T numbers : List ℕ} {p column row : ℕ} {words : List ℕ} (f : is_fork T p ≡ true) (q : ℕ) (q4 : q < 4) (its : Block) (ei : its ≡ quarter_of (block_from column row 1) q)
    (words' : List ℕ) (g : Gained T numbers p (block_from column row 1) words q words') (v : ℕ) (ev : v ≡ get_or numbers (son T p q) 0) where
  pub pixel_passing : Entering T numbers p (block_from column row 1) words → Passing its v words'
  pixel_passing z = rw ev (entering_passing (son_entering f q (son T p q) its words' q4 refl ei g z))

  pub pixel_gained : (words'' : List ℕ) → words'' ≡ passed_of its v words' → Gained T numbers p (block_from column row 1) words (q + 1) words''
  pixel_gained words'' e =
      let low = ap (λ (b : Block). b.level) ei in
      gained_more f q (son T p q) its words' q4 refl ei g words'' (λ z. pixel_entered z words'' (omega (arith, low)) (rw ev at e))
