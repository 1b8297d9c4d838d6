-- The programs' read is sheet_read's but for a sheet that is too large; what it loads is an accepted sheet; and it has
-- no second outcome.
use Rattle.std.specs.Prelude.{Ok, Err}
use mathlib.Core.Bool.{Bool, true, false, true≢false}
use mathlib.Core.List.{List}
use mathlib.Core.Path.{◌≡◌, refl, ap, sym, ◌∙◌}
use Prim.Native.Nat.{ℕ, ◌*◌, ◌≤◌}
use native.Mathlib.Omega.{arith}
use lib.ListN.{length, get_or, take, replicate}
use lib.Seq.{take-append_seam}
use Rattle.answer.specs.declared.Refusal.TheVariants.{TooLarge}
use Rattle.answer.specs.Numbers.{Outcome, node_in, level_in, answers}
use Rattle.quad.specs.Numbers.{none}
use Rattle.quad.specs.Tree.{size_of, same_leaf}
use Rattle.base.specs.Tab.{overlay}
use Rattle.base.proofs.CaseLaws.{cond_case}
use Rattle.table.specs.Rules.{Accepted}
use Rattle.table.specs.Preorder.{preorder, preorder_table}
use Rattle.table.specs.SheetA.{table_a, file_a}
use Rattle.table.proofs.PreorderAccepted.{preorder_accepted}
use Rattle.table.proofs.PreorderLaws.{preorder_length}
use Rattle.file.specs.File.{block_at, open_of, read_of, read_table}
use Rattle.file.specs.Calls.{Reads}
use Rattle.file.proofs.FaultLaws.{Answers, read_answered, read_length}
use Rattle.file.proofs.OneFile.{opens}
use Rattle.file.proofs.RoundTrip.{read_leaves}
use Rattle.file_load.specs.Load.{too_large, load_of, loaded_table, Loads}

module _ (s before : List ℕ) (u : Bool) (e : u ≡ too_large s) where
  pub load_large : u ≡ true → Loads s before (Err (TooLarge 2)) before
  unfolding load_of loaded_table
  load_large h = record { answer = rw (load_of, ← e, h); table = rw (loaded_table, ← e, h) }

  pub load_read : (r : Outcome) (after : List ℕ) → u ≡ false → Reads s before r after → Loads s before r after
  unfolding load_of loaded_table
  load_read r after h reads = record { answer = rw (load_of, ← e, h) reads.answer; table = rw (loaded_table, ← e, h) reads.table }

-- an answer is the file reader's, so its nodes fit
not_large : (s : List ℕ) (words v : ℕ) → load_of s words ≡ Ok v → too_large s ≡ false
unfolding load_of
not_large s words v h = go (too_large s) refl
  where
    go : (b : Bool) → too_large s ≡ b → too_large s ≡ false
    go true e = absurd (let z : ◌≡◌ {A = ℕ} 0 1 = (let f : Err (TooLarge 2) ≡ Ok v = rw (load_of, e) at h in cc) in omega arith)
    go false e = e

pub load_answers : (s : List ℕ) (words v : ℕ) → load_of s words ≡ Ok v → Answers s words v
unfolding load_of
load_answers s words v h = read_answered s words v (rw (load_of, not_large s words v h) at h)

pub loaded_fits : (s before after : List ℕ) (r : Outcome) (v : ℕ) → Loads s before r after → r ≡ Ok v → 6 * node_in v ≤ length before
loaded_fits s before after r v l e =
    let a = load_answers s (length before) v (sym l.answer ∙ e) in
    omega (arith, a.value, a.low, a.fits)

pub loaded_length : (s before after : List ℕ) (r : Outcome) → Loads s before r after → length after ≡ length before
unfolding loaded_table
loaded_length s before after r l =
    ap length l.table ∙ cond_case (λ (t : List ℕ). length t ≡ length before) (too_large s) before (read_table s before) (λ e. refl) (λ e. read_length s before)

-- the words of the nodes loaded are an accepted sheet of the level loaded
pub loaded_accepted : (s before after : List ℕ) (r : Outcome) (v : ℕ) → Loads s before r after → r ≡ Ok v → Accepted (level_in v) (take (6 * node_in v) after)
unfolding loaded_table
loaded_accepted s before after r v l e =
    let h = sym l.answer ∙ e in
    let a = load_answers s (length before) v h in
    let w = a.whole in
    let t = a.tree in
    let opened = opens s a.level t w.header.first w.header.second w.level w.count w.ends w.spells.spelt a.low w.spells.sound in
    let is : after ≡ overlay (preorder_table t) before =
    l.table ∙ rw (loaded_table, not_large s (length before) v h) (read_leaves s before a.level t opened a.fits) in
    let level : level_in v ≡ a.level = omega (arith, a.value, a.low) in
    let words : 6 * node_in v ≡ length (preorder_table t) = omega (arith, a.value, a.low, preorder_length none 0 t) in
    rw (is, level, words, take-append_seam) (preorder_accepted a.level t a.low w.spells.sound)

-- no second outcome
pub one_load : (s before : List ℕ) (r q : Outcome) (after final : List ℕ) → Loads s before r after → Loads s before q final → (r ≡ q) × (after ≡ final)
one_load s before r q after final a b = (a.answer ∙ sym b.answer, a.table ∙ sym b.table)

-- sheet A is loaded, so neither a read that refuses everything nor one that writes nothing meets the statement (demand
-- 2)
abbrev zeros : List ℕ
zeros = replicate 54 0

loads-A : load_of file_a 54 ≡ Ok 74
unfolding load_of too_large read_of open_of block_at size_of same_leaf
loads-A = refl

loaded-A : loaded_table file_a zeros ≡ table_a
unfolding loaded_table too_large read_table read_of open_of block_at size_of same_leaf preorder
loaded-A = refl

module _ (answer : List ℕ → List ℕ → Outcome) (table : List ℕ → List ℕ → List ℕ)
    (meets : (s before : List ℕ) → Loads s before (answer s before) (table s before)) where
  pub load_not_refused : ((s before : List ℕ) → answers (answer s before) ≡ false) → ⊥
  load_not_refused refuses = true≢false (sym (ap answers ((meets file_a zeros).answer ∙ loads-A)) ∙ refuses file_a zeros)

  pub load_writes : ((s before : List ℕ) → table s before ≡ before) → ⊥
  load_writes idle = omega (arith, ap (λ (l : List ℕ). get_or l 1 0) (sym ((meets file_a zeros).table ∙ loaded-A) ∙ idle file_a zeros))
