-- The read call: what it answers and leaves in the table, by what the first pass told.
use Rattle.std.specs.Prelude.{Ok, Err}
use mathlib.Core.List.{List}
use mathlib.Core.Path.{◌≡◌, refl, ap, sym, ◌∙◌}
use Prim.Native.Nat.{ℕ, ◌*◌, ◌≤◌, ◌<◌}
use native.Mathlib.Nat.{zero-add}
use native.Mathlib.Omega.{arith}
use lib.ListN.{length}
use borrow.Author.Tests.{lt-ltb, le-ltb}
use Rattle.answer.proofs.OutcomeLaws.{refusal_refuses}
use Rattle.answer.specs.declared.Refusal.{Refusal}
use Rattle.answer.specs.declared.Refusal.TheVariants.{NoRoom}
use Rattle.answer.specs.Numbers.{with_level}
use Rattle.quad.specs.Numbers.{top_level, none, max_words}
use Rattle.quad.specs.Tree.{Tree, size_of}
use Rattle.quad.proofs.TreeLaws.{size_fits}
use Rattle.table.proofs.PreorderLaws.{Written, written_whole}
use Rattle.file.specs.declared.Contents.{Contents}
use Rattle.file.specs.File.{block_at, Opened, opened, faulty, open_of, read_of, read_table}
use Rattle.file.specs.Calls.{Reads}
use Rattle.file.specs.Reading.{contents_of}
use Rattle.file.specs.Linking.{record_place, tree_in, Ready, Linked}
use Rattle.file.proofs.OpenLaws.{Whole, open_whole}

-- a file that opens, as the first pass tells it
record Told (s : List ℕ) (n count : ℕ) : Type 0 where
  pub tree : Tree
  pub is : open_of s ≡ opened n tree
  pub size : size_of tree ≡ count

faulty_reads : (s old : List ℕ) (o : Refusal) → open_of s ≡ faulty o → Reads s old (Err o) old
unfolding read_of read_table
faulty_reads s old o is = record { answer = rw is; table = rw (is, refusal_refuses o) }

module _ (s old : List ℕ) where
  pub reads_faulty : (o : Refusal) → Err o ≡ contents_of (open_of s) → Reads s old (Err o) old
  reads_faulty o f = go (open_of s) refl (sym f)
    where
      go : (q : Opened) → open_of s ≡ q → contents_of q ≡ Err o → Reads s old (Err o) old
      go (opened n t) is h = absurd (let z : ◌≡◌ {A = ℕ} 0 1 = cc in omega arith)
      go (faulty p) is h =
          let op : p ≡ o = cc in
          faulty_reads s old o (rw op at is)

  module _ (k : Contents) (f : Ok k ≡ contents_of (open_of s)) where
    its : Told s k.level k.count
    its = go (open_of s) refl (sym f)
      where
        go : (q : Opened) → open_of s ≡ q → contents_of q ≡ Ok k → Told s k.level k.count
        go (opened m t) is h =
            let e : record { level = m; count = size_of t } ≡ k = cc in
            let mn : m ≡ k.level = ap (λ (x : Contents). x.level) e in
            record { tree = t; is = rw mn at is; size = ap (λ (x : Contents). x.count) e }
        go (faulty p) is h = absurd (let z : ◌≡◌ {A = ℕ} 0 1 = cc in omega arith)

    whole : Whole s k.level its.tree
    whole = open_whole s k.level its.tree its.is

    level : k.level ≤ top_level
    level = rw whole.level at whole.header.level

    -- its numbers are small
    pub sheet_fits : (k.level ≤ top_level) × (6 * k.count ≤ max_words)
    sheet_fits = (level, rw its.size at (size_fits k.level its.tree level whole.spells.sound.within))

    pub reads_full : length old < 6 * k.count → Reads s old (Err (NoRoom (6 * k.count))) old
    unfolding read_of read_table
    reads_full lt = record {
      answer = rw (its.is, its.size, lt-ltb (length old) (6 * k.count) lt);
      table = rw (its.is, its.size, lt-ltb (length old) (6 * k.count) lt);
    }

    pub link_asks : 6 * k.count ≤ length old → Ready s k.level 0 (length old)
    link_asks le = record { tree = its.tree; is = rw zero-add whole.block; room = omega (arith, its.size); few = omega (arith, its.size, sheet_fits.1) }

    pub reads_sheet : 6 * k.count ≤ length old → (after : List ℕ) (r : ℕ) → Linked (tree_in (block_at s k.level (record_place 0))) none 0 old after r
        → (v : ℕ) → v ≡ with_level k.count k.level → Reads s old (Ok v) after
    unfolding read_of read_table
    reads_sheet le after r h v is =
        let t : Tree = its.tree in
        let w : Written none 0 t old after = rw whole.block at h.words in
        record {
          answer = rw (is, its.is, its.size, le-ltb (length old) (6 * k.count) le);
          table = written_whole t old after (omega (arith, its.size)) w ∙ rw (its.is, its.size, le-ltb (length old) (6 * k.count) le);
        }
