-- Reading and writing undo each other, for every level: a written file is read as the preorder table of the same
-- picture, an accepted file is what writing its table gives, and tables with one picture write one file.
use Rattle.std.specs.Prelude.{Ok}
use mathlib.Core.List.{List}
use mathlib.Core.Path.{◌≡◌, ap, sym, ◌∙◌}
use Prim.Native.Nat.{ℕ, ◌+◌, ◌*◌, ◌^◌, ◌≤◌, ◌<◌}
use native.Mathlib.Omega.{arith}
use lib.ListN.{length}
use borrow.Author.Tests.{le-ltb}
use Rattle.base.specs.Tab.{overlay}
use Rattle.base.proofs.SetsLaws.{overlay_all}
use Rattle.answer.specs.Numbers.{Outcome, with_level}
use Rattle.quad.specs.Numbers.{none}
use Rattle.quad.specs.Tree.{Tree, size_of}
use Rattle.table.specs.Table.{nodes}
use Rattle.table.specs.Rules.{Accepted}
use Rattle.table.specs.Nodes.{pixel, tree_at}
use Rattle.table.specs.Preorder.{preorder_table}
use Rattle.table.proofs.CheckLaws.{check_accepted}
use Rattle.table.proofs.PictureLaws.{pixel_shade, sheet_sound, same_picture_same_tree}
use Rattle.table.proofs.PreorderAccepted.{preorder_tree, preorder_nodes, preorder_accepted}
use Rattle.table.proofs.PreorderLaws.{preorder_length}
use Rattle.table.proofs.SizeLaws.{tree_size}
use Rattle.file.specs.File.{file_of, opened, open_of, read_of, read_table, write_of, written_file}
use Rattle.file.specs.Calls.{Reads, Writes}
use Rattle.file.proofs.OneFile.{Bytes, file_length, file_opens, open_exactly}

-- an accepted table, written where there is room
module _ (n : ℕ) (T old : List ℕ) (acc : Accepted n T) (room : 5 + 3 * nodes T ≤ length old) where
  pub write_value : write_of n T (length old) ≡ Ok (5 + 3 * nodes T)
  unfolding write_of
  write_value = rw (check_accepted n T acc, le-ltb (length old) (5 + 3 * nodes T) room)

  pub write_leaves : written_file n T old ≡ overlay (file_of n (tree_at T n 0)) old
  unfolding written_file
  write_leaves = rw write_value

-- a file that opens, read where there is room
module _ (s old : List ℕ) (n : ℕ) (t : Tree) (e : open_of s ≡ opened n t) (room : 6 * size_of t ≤ length old) where
  pub read_value : read_of s (length old) ≡ Ok (with_level (size_of t) n)
  unfolding read_of
  read_value = rw (e, le-ltb (length old) (6 * size_of t) room)

  pub read_leaves : read_table s old ≡ overlay (preorder_table t) old
  unfolding read_table
  read_leaves = rw (read_value, e)

-- reading what was written, into a table of just its length, gives an accepted table of the same picture: the preorder
-- one
pub record Again (n : ℕ) (T : List ℕ) (r : Outcome) (U : List ℕ) : Type 0 where
  pub answer : r ≡ Ok (with_level (nodes T) n)
  pub table : U ≡ preorder_table (tree_at T n 0)
  pub accepted : Accepted n U
  pub picture : (x y : ℕ) → pixel n U x y ≡ pixel n T x y

pub written_then_read : (n : ℕ) (T before file words U : List ℕ) (w r : Outcome) → Accepted n T → length before ≡ 5 + 3 * nodes T → length words ≡ 6 * nodes T
    → Writes n T before w file → Reads file words r U → Again n T r U
written_then_read n T before file words U w r acc lb lw writes reads =
    let t : Tree = tree_at T n 0 in
    let top = acc.sized.level in
    let sound = sheet_sound n T acc in
    let size = tree_size n T acc in
    let all : file ≡ file_of n t =
    writes.file ∙ write_leaves n T before acc (omega arith) ∙ overlay_all (file_of n t) before (omega (arith, file_length n t)) in
    let e : open_of file ≡ opened n t = ap open_of all ∙ file_opens n t top sound in
    let is : U ≡ preorder_table t =
    reads.table ∙ read_leaves file words n t e (omega arith) ∙ overlay_all (preorder_table t) words (omega (arith, preorder_length none 0 t)) in
    record {
      answer = reads.answer ∙ read_value file words n t e (omega arith) ∙ rw size;
      table = is;
      accepted = rw is (preorder_accepted n t top sound);
      picture =
          λ x y. rw is (pixel_shade n (preorder_table t) x y ∙ rw (preorder_tree n t top sound) (sym (pixel_shade n T x y)));
    }

-- every accepted file is exactly what writing its table gives
pub read_then_written : (s words U before file : List ℕ) (n : ℕ) (t : Tree) (r w : Outcome) → Bytes s → open_of s ≡ opened n t → length words ≡ 6 * size_of t
    → length before ≡ length s → Reads s words r U → Writes n U before w file → (w ≡ Ok (length s)) × (file ≡ s)
read_then_written s words U before file n t r w bytes e lw lb reads writes =
    let x = open_exactly s n t bytes e in
    let is : U ≡ preorder_table t =
    reads.table ∙ read_leaves s words n t e (omega arith) ∙ overlay_all (preorder_table t) words (omega (arith, preorder_length none 0 t)) in
    let acc : Accepted n U = rw is (preorder_accepted n t x.level x.sound) in
    let count : nodes U ≡ size_of t = ap nodes is ∙ preorder_nodes n t x.level x.sound in
    let tree : tree_at U n 0 ≡ t = ap (λ (W : List ℕ). tree_at W n 0) is ∙ preorder_tree n t x.level x.sound in
    let long : length s ≡ 5 + 3 * size_of t = ap length x.is ∙ file_length n t in (
      writes.answer ∙ write_value n U before acc (omega arith) ∙ ap Ok (omega arith),
      writes.file ∙ write_leaves n U before acc (omega arith) ∙ rw tree (overlay_all (file_of n t) before (omega (arith, file_length n t))) ∙ sym x.is,
    )

-- two tables with one picture write one file
module _ (n : ℕ) (T U : List ℕ) (a : Accepted n T) (b : Accepted n U) (tree : tree_at T n 0 ≡ tree_at U n 0) where
  same_answer : (bytes : ℕ) → write_of n T bytes ≡ write_of n U bytes
  unfolding write_of
  same_answer bytes =
      let count : nodes T ≡ nodes U = sym (tree_size n T a) ∙ ap size_of tree ∙ tree_size n U b in
      rw (check_accepted n T a, check_accepted n U b, count)

  same_file : (before : List ℕ) → written_file n T before ≡ written_file n U before
  unfolding written_file
  same_file before = rw (same_answer (length before), tree)

pub one_picture_one_file : (n : ℕ) (T U before file file' : List ℕ) (w w' : Outcome) → Accepted n T → Accepted n U
    → ((x y : ℕ) → x < 2 ^ n → y < 2 ^ n → pixel n T x y ≡ pixel n U x y) → Writes n T before w file → Writes n U before w' file'
    → (w ≡ w') × (file ≡ file')
one_picture_one_file n T U before file file' w w' a b same x y =
    let tree = same_picture_same_tree n T U a b same in (
      x.answer ∙ same_answer n T U a b tree (length before) ∙ sym y.answer,
      x.file ∙ same_file n T U a b tree before ∙ sym y.file,
    )
