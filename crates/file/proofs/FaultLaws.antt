-- Reading is answered only where the whole file was read: a fault of a file is a refusal, by its type.
use Rattle.std.specs.Prelude.{Ok, Err}
use mathlib.Core.Bool.{Bool, true, false, cond}
use mathlib.Core.List.{List}
use mathlib.Core.Path.{◌≡◌, refl}
use Prim.Native.Nat.{ℕ, ◌*◌, ◌≤◌}
use native.Mathlib.Omega.{arith}
use lib.Dec.{ltb}
use lib.ListN.{length}
use borrow.Author.Tests.{ltb-false}
use Rattle.base.proofs.SetsLaws.{overlay_length}
use Rattle.answer.specs.declared.Refusal.TheVariants.{NoRoom}
use Rattle.answer.proofs.OutcomeLaws.{refusal_refuses}
use Rattle.answer.specs.Numbers.{with_level, answers, and_then}
use Rattle.base.specs.Tab.{overlay}
use Rattle.quad.specs.Numbers.{top_level, none}
use Rattle.table.specs.Preorder.{preorder_table}
use Rattle.table.proofs.PreorderLaws.{preorder_length}
use Rattle.quad.specs.Tree.{Tree, size_of}
use Rattle.file.specs.File.{Opened, opened, faulty, open_of, read_to, read_of, table_of, read_table}
use Rattle.file.proofs.OpenLaws.{Whole, open_whole}

-- what an answer of the reader says of its value: level and node count, for which there was room
pub record Answers (s : List ℕ) (words v : ℕ) : Type 0 where
  pub level : ℕ
  pub tree : Tree
  pub whole : Whole s level tree
  pub value : v ≡ with_level (size_of tree) level
  pub low : level ≤ top_level
  pub fits : 6 * size_of tree ≤ words

pub read_answered : (s : List ℕ) (words v : ℕ) → read_of s words ≡ Ok v → Answers s words v
unfolding read_of
read_answered s words v h = go (open_of s) refl h
  where
    sized : (n : ℕ) (t : Tree) (b : Bool) → ltb words (6 * size_of t) ≡ b → open_of s ≡ opened n t → and_then (cond b (Err (NoRoom (6 * size_of t))) (Ok 0)) (Ok (with_level (size_of t) n)) ≡ Ok v → Answers s words v
    sized n t true q e h = absurd (let z : ◌≡◌ {A = ℕ} 0 1 = cc in omega arith)
    sized n t false q e h =
        let w = open_whole s n t e in
        let lv = w.level in
        record { level = n; tree = t; whole = w; value = (cc); low = omega (arith, w.header.level); fits = ltb-false _ _ q }

    go : (o : Opened) → open_of s ≡ o → read_to o words ≡ Ok v → Answers s words v
    go (opened n t) e h = sized n t (ltb words (6 * size_of t)) refl e h
    go (faulty o) e h = absurd (let z : ◌≡◌ {A = ℕ} 0 1 = cc in omega arith)

-- the table keeps its length
pub read_length : (s old : List ℕ) → length (read_table s old) ≡ length old
unfolding read_table read_of
read_length s old = go (open_of s)
  where
    sized : (n : ℕ) (t : Tree) (b : Bool) → ltb (length old) (6 * size_of t) ≡ b
        → length (cond (answers (and_then (cond b (Err (NoRoom (6 * size_of t))) (Ok 0)) (Ok (with_level (size_of t) n)))) (overlay (preorder_table t) old) old) ≡ length old
    sized n t true q = refl
    sized n t false q = overlay_length (preorder_table t) old (omega (arith, ltb-false (length old) (6 * size_of t) q, preorder_length none 0 t))

    go : (o : Opened) → length (cond (answers (read_to o (length old))) (table_of o old) old) ≡ length old
    go (opened n t) = sized n t (ltb (length old) (6 * size_of t)) refl
    go (faulty o) = rw (refusal_refuses o)
