-- A register of words whose first entries are a list's: an entry is read and written as the list's entry, and the next
-- one behind them makes the list longer. So the words follow the entries while blocks are passed.
use mathlib.Core.List.{List, [], ◌∷◌, ◌++◌}
use mathlib.Core.Logic.{⊎_elim}
use mathlib.Core.Path.{◌≡◌, refl, ap, sym, ◌∙◌}
use Prim.Native.Nat.{ℕ, zero, suc, ◌+◌, ◌-◌, ◌*◌, ◌≤◌, ◌<◌}
use native.Mathlib.Nat.{suc-add, not-suc-le-zero, eq-zero-or-pos}
use native.Mathlib.Omega.{arith}
use lib.ListN.{length, get_or, set, drop, replicate, length-append, length-set, length-drop, length-replicate, replicate-append-replicate}
use lib.Seq.{drop-drop}
use borrow.Author.Tests.{eq-eqb, ne_eqb}
use Rattle.base.specs.Tab.{overlay}
use Rattle.base.proofs.SetsLaws.{overlay_length}
use Rattle.table.specs.declared.Block.{Block}
use Rattle.ponds.specs.declared.Pond.{Pond}
use Rattle.ponds.specs.Entries.{entry_of, entries, words_of}
use Rattle.ponds_entry.specs.Gathered.{empty_pond, grown_of, grown_at, Fitting, ponds_from}
use Rattle.ponds_entry.specs.Words.{pond_at, put_at, pond_words, passed_of, Passing, register_of}
use Rattle.ponds_entry.proofs.GatheredLaws.{ponds_length, ponds_at, ponds_same, empty_ponds, entries_ponds, changed_at, changed_none, changed_one}

words_length : (es : List Pond) → length (words_of es) ≡ 5 * length es
unfolding words_of
words_length [] = omega arith
words_length (e ∷ es) = omega (arith, words_length es)

five_more : (i : ℕ) → 5 * suc i ≡ suc (suc (suc (suc (suc (5 * i)))))
five_more i = omega arith

words_at : (rest : List ℕ) (es : List Pond) (i : ℕ) (d : Pond) → i < length es → pond_at (words_of es ++ rest) i ≡ get_or es i d
unfolding words_of pond_at
words_at rest [] i d h = absurd (not-suc-le-zero h)
words_at rest (e ∷ es) zero d h = refl
words_at rest (e ∷ es) (suc i) d h = simp (five_more, suc-add) (words_at rest es i d (omega arith))

words_put : (rest : List ℕ) (es : List Pond) (i : ℕ) (e : Pond) → i < length es → put_at (words_of es ++ rest) i e ≡ words_of (set es i e) ++ rest
unfolding words_of
words_put rest [] i e h = absurd (not-suc-le-zero h)
words_put rest (f ∷ es) zero e h = refl
words_put rest (f ∷ es) (suc i) e h = rw (five_more i) (ap (λ (ws : List ℕ). pond_words f ++ ws) (words_put rest es i e (omega arith)))

-- the entry behind them
words_next : (rest : List ℕ) (es : List Pond) (e : Pond) → 5 ≤ length rest
    → put_at (words_of es ++ rest) (length es) e ≡ words_of (es ++ (e ∷ [])) ++ drop 5 rest
unfolding words_of
words_next [] [] e h = absurd (omega arith)
words_next (a ∷ []) [] e h = absurd (omega arith)
words_next (a ∷ b ∷ []) [] e h = absurd (omega arith)
words_next (a ∷ b ∷ c ∷ []) [] e h = absurd (omega arith)
words_next (a ∷ b ∷ c ∷ d ∷ []) [] e h = absurd (omega arith)
words_next (a ∷ b ∷ c ∷ d ∷ f ∷ rest) [] e h = refl
words_next rest (f ∷ es) e h = rw (five_more (length es)) (ap (λ (ws : List ℕ). pond_words f ++ ws) (words_next rest es e h))

-- the register with the entries of `es` written over its start
module _ (before : List ℕ) where
  overlay_at : (es : List Pond) (i : ℕ) (d : Pond) → i < length es → pond_at (overlay (words_of es) before) i ≡ get_or es i d
  overlay_at es i d h = words_at (drop (length (words_of es)) before) es i d h

  overlay_put : (es : List Pond) (i : ℕ) (e : Pond) → i < length es → put_at (overlay (words_of es) before) i e ≡ overlay (words_of (set es i e)) before
  overlay_put es i e h =
      let same : length (words_of (set es i e)) ≡ length (words_of es) = omega (arith, words_length (set es i e), words_length es, length-set es i e) in
      words_put (drop (length (words_of es)) before) es i e h ∙ rw same

  overlay_next : (es : List Pond) (e : Pond) → 5 * length es + 5 ≤ length before
      → put_at (overlay (words_of es) before) (length es) e ≡ overlay (words_of (es ++ (e ∷ []))) before
  overlay_next es e h =
      let more : length (words_of (es ++ (e ∷ []))) ≡ length (words_of es) + 5 =
      omega (arith, words_length (es ++ (e ∷ [])), words_length es, length-append es (e ∷ [])) in
      words_next (drop (length (words_of es)) before) es e (simp length-drop (omega (arith, words_length es)))
      ∙ rw (more, drop-drop 5 (length (words_of es)) before)

  -- one empty entry more
  pub cleared_none : before ≡ overlay (words_of (replicate 0 empty_pond)) before
  unfolding words_of
  cleared_none = refl

  pub cleared_more : (i count : ℕ) (e : Pond) (reg out : List ℕ) → i < count → 5 * count ≤ length before
      → reg ≡ overlay (words_of (replicate i empty_pond)) before → e ≡ empty_pond → out ≡ put_at reg i e
      → out ≡ overlay (words_of (replicate (i + 1) empty_pond)) before
  cleared_more i count e reg out lt h inv ee eo =
      let es = replicate i empty_pond in
      let size : length es ≡ i = length-replicate i empty_pond in
      let next = overlay_next es empty_pond (omega arith) in
      let shown : put_at (overlay (words_of es) before) i empty_pond ≡ overlay (words_of (es ++ (empty_pond ∷ []))) before = rw size at next in
      rw (eo, inv, ee) (shown ∙ ap (λ (fs : List Pond). overlay (words_of fs) before) (replicate-append-replicate i 1 empty_pond))

  pub cleared_all : (i count : ℕ) (reg : List ℕ) → i ≤ count → count ≤ i → reg ≡ overlay (words_of (replicate i empty_pond)) before
      → reg ≡ overlay (words_of (replicate count empty_pond)) before
  cleared_all i count reg le ge inv = let e : i ≡ count = omega arith in rw e at inv

-- the number of the node that a word names
pub named_number : (numbers : List ℕ) (s t : ℕ) → s ≡ t → get_or numbers s 0 ≡ get_or numbers t 0
named_number numbers s t e = rw e

-- an entry that is read, grown and written
pub fitting_read : (e f : Pond) (b : Block) → e ≡ f → Fitting f b → Fitting e b
fitting_read e f b q h = rw q h

pub grown_written : (reg out : List ℕ) (i : ℕ) (e g : Pond) (b : Block) → e ≡ pond_at reg i → g ≡ grown_of e b → out ≡ put_at reg i g
    → out ≡ put_at reg i (grown_of (pond_at reg i) b)
grown_written reg out i e g b ee eg eo = rw (eo, eg, ee)

-- a block of number k passed
module _ (b : Block) (k : ℕ) (reg : List ℕ) where
  pub passed_none : (j : ℕ) → j ≡ k → j ≡ 0 → reg ≡ passed_of b k reg
  unfolding passed_of
  passed_none j is e = rw (eq-eqb k 0 (sym is ∙ e))

  pub passed_one : (j : ℕ) (out : List ℕ) → j ≡ k → (j ≡ 0 → ⊥) → out ≡ put_at reg (j - 1) (grown_of (pond_at reg (j - 1)) b) → out ≡ passed_of b k reg
  unfolding passed_of
  passed_one j out is h eo = rw (ne_eqb k 0 (λ e. h (is ∙ e)), ← is) eo

  module _ (s : Passing b k reg) (j : ℕ) (is : j ≡ k) (h : j ≡ 0 → ⊥) where
    pub passing_stands : 5 * (j - 1) + 5 ≤ length reg
    passing_stands = let l = s.stands in omega arith

    pub passing_fits : Fitting (pond_at reg (j - 1)) b
    passing_fits = rw is (s.fits (omega arith))

-- the register in which ponds 1 to `count` have the entries E
module _ (count : ℕ) (before : List ℕ) (E : ℕ → Pond) where
  abbrev es : List Pond
  es = ponds_from E count 1

  size : length es ≡ count
  size = ponds_length E count 1

  module _ (long : 5 * count ≤ length before) where
    pub register_long : length (register_of count before E) ≡ length before
    register_long = overlay_length (words_of es) before (omega (arith, words_length es, size))

    -- pond k's entry
    pub register_at : (k : ℕ) → 0 < k → k ≤ count → pond_at (register_of count before E) (k - 1) ≡ E k
    register_at k pos h =
        let e : 1 + (k - 1) ≡ k = omega arith in
        overlay_at before es (k - 1) empty_pond (omega (arith, size)) ∙ (ponds_at E count 1 (k - 1) empty_pond (omega arith) ∙ rw e)

    pub register_passing : (b : Block) (k : ℕ) → k ≤ count → Fitting (E k) b → Passing b k (register_of count before E)
    register_passing b k h f = record {
      stands = omega (arith, register_long);
      fits = λ pos. rw (register_at k pos h) f;
    }

    -- pond k's entry read, changed and written
    pub register_changed : (g : Pond → Pond) (k : ℕ) → 0 < k → k ≤ count
        → put_at (register_of count before E) (k - 1) (g (pond_at (register_of count before E) (k - 1))) ≡ register_of count before (changed_at k g E)
    register_changed g k pos h =
        let i : ℕ = k - 1 in
        let lt : i < count = omega arith in
        let there : pond_at (register_of count before E) i ≡ get_or es i empty_pond = overlay_at before es i empty_pond (omega (arith, size)) in
        let e : k ≡ suc i = omega arith in
        ap (λ (f : Pond). put_at (register_of count before E) i (g f)) there
        ∙ (overlay_put before es i (g (get_or es i empty_pond)) (omega (arith, size))
        ∙ ap (λ (fs : List Pond). overlay (words_of fs) before) (sym (changed_one E k g count i lt e)))

    pub register_passed : (b : Block) (k : ℕ) → k ≤ count → passed_of b k (register_of count before E) ≡ register_of count before (grown_at k b E)
    unfolding passed_of
    register_passed b k h =
        let g : Pond → Pond = λ e. grown_of e b in
        ⊎_elim
        (λ (z : k ≡ 0). rw (eq-eqb k 0 z) (ap (λ (fs : List Pond). overlay (words_of fs) before) (sym (changed_none E k g count z))))
        (λ (pos : 0 < k). rw (ne_eqb k 0 (λ z. omega arith)) (register_changed g k pos h))
        (eq-zero-or-pos k)

  -- other entries of the same ponds
  pub register_same : (F : ℕ → Pond) → ((k : ℕ) → 0 < k → E k ≡ F k) → register_of count before E ≡ register_of count before F
  register_same F h = ap (λ (fs : List Pond). overlay (words_of fs) before) (ponds_same E F count 1 h)

-- it begins with empty ponds, and ends with the ponds' entries
pub register_empty : (count : ℕ) (before : List ℕ) → overlay (words_of (replicate count empty_pond)) before ≡ register_of count before (λ k. empty_pond)
register_empty count before = ap (λ (fs : List Pond). overlay (words_of fs) before) (sym (empty_ponds count 1))

pub register_entries : (n : ℕ) (T numbers : List ℕ) (count : ℕ) (before : List ℕ)
    → register_of count before (entry_of n T numbers) ≡ overlay (words_of (entries n T numbers count)) before
register_entries n T numbers count before = ap (λ (fs : List Pond). overlay (words_of fs) before) (entries_ponds n T numbers count 1)
