-- The write call: what it answers and leaves in the file, by what the check gave.
use Rattle.std.specs.Prelude.{Ok, Err}
use mathlib.Core.Bool.{false}
use mathlib.Core.List.{List, [], ◌∷◌, ◌++◌}
use mathlib.Core.Path.{◌≡◌, refl, ap, sym, ◌∙◌}
use Prim.Native.Nat.{ℕ, ◌+◌, ◌*◌, ◌/◌, ◌%◌, ◌≤◌, ◌<◌}
use native.Mathlib.Omega.{arith}
use lib.ListN.{length}
use lib.Seq.{sets, length-sets}
use borrow.Author.Tests.{lt-ltb, le-ltb}
use Rattle.base.proofs.SetsLaws.{sets_after, sets_overlay}
use Rattle.answer.proofs.OutcomeLaws.{refusal_refuses}
use Rattle.answer.specs.declared.Refusal.{Refusal}
use Rattle.answer.specs.declared.Refusal.TheVariants.{NoRoom}
use Rattle.answer.specs.Numbers.{answers}
use Rattle.quad.specs.Numbers.{top_level, max_words}
use Rattle.quad.specs.Tree.{Tree, size_of, types_of}
use Rattle.table.specs.Table.{nodes}
use Rattle.table.specs.Rules.{check_of, Accepted}
use Rattle.table.specs.Nodes.{tree_at}
use Rattle.table.proofs.CheckLaws.{check_accepted, accepted_ok}
use Rattle.table.proofs.AcceptedLaws.{root_at}
use Rattle.table.proofs.SizeLaws.{tree_size}
use Rattle.file.specs.File.{mark, sheet_mark, records, file_of, write_of, written_file}
use Rattle.file.specs.Calls.{Writes}
use Rattle.file.specs.Writing.{Writable, Wrote}
use Rattle.file.proofs.WriteLaws.{types_bytes}

module _ (n : ℕ) (T old : List ℕ) where
  pub writes_refused : (e : Refusal) → Err e ≡ check_of n T → Writes n T old (Err e) old
  unfolding write_of written_file
  writes_refused e h =
      let f : answers (check_of n T) ≡ false = rw (← h) (refusal_refuses e) in
      record { answer = h ∙ rw f; file = rw (f, f) }

  module _ (count : ℕ) (ok : Ok count ≡ check_of n T) where
    acc : Accepted n T
    acc = accepted_ok n T count ok

    passes : check_of n T ≡ Ok (nodes T)
    passes = check_accepted n T acc

    count_is : nodes T ≡ count
    count_is =
        let e : Ok (nodes T) ≡ Ok count = sym passes ∙ sym ok in
        cc

    pub count_fits : (n ≤ top_level) × (6 * count ≤ max_words)
    count_fits = (acc.sized.level, omega (arith, acc.sized.few, acc.sized.whole, count_is))

    pub writes_full : length old < 5 + 3 * count → Writes n T old (Err (NoRoom (5 + 3 * count))) old
    unfolding write_of written_file
    writes_full lt = record {
      answer = rw (passes, count_is, lt-ltb (length old) (5 + 3 * count) lt);
      file = rw (passes, count_is, lt-ltb (length old) (5 + 3 * count) lt);
    }

    module _ (le : 5 + 3 * count ≤ length old) where
      pub header_asks : (5 ≤ length old) × (n < 256) × (count < 65536)
      header_asks = (omega arith, omega (arith, count_fits), omega (arith, count_fits))

      module _ (w₀ : List ℕ) (h₀ : w₀ ≡ sets old 0 (mark ∷ sheet_mark ∷ n ∷ count % 256 ∷ count / 256 ∷ [])) where
        same : length w₀ ≡ length old
        same = ap length h₀ ∙ length-sets old 0 (mark ∷ sheet_mark ∷ n ∷ count % 256 ∷ count / 256 ∷ [])

        size : size_of (tree_at T n 0) ≡ count
        size = tree_size n T acc ∙ count_is

        pub root_ok : Writable T n 0 5 (length w₀)
        root_ok = record {
          n = n;
          place = root_at acc;
          room = omega (arith, same, size);
        }

        pub writes_sheet : (after : List ℕ) (r : ℕ) → Wrote (tree_at T n 0) 5 w₀ after r → Writes n T old (Ok (5 + 3 * count)) after
        unfolding write_of written_file file_of
        writes_sheet after r h =
            let t : Tree = tree_at T n 0 in
            let rs : List ℕ = records (types_of t) in
            let head : List ℕ = mark ∷ sheet_mark ∷ n ∷ count % 256 ∷ count / 256 ∷ [] in
            let all : after ≡ sets old 0 (head ++ rs) = h.bytes ∙ ap (λ (w : List ℕ). sets w 5 rs) h₀ ∙ sets_after old 0 5 head rs refl in
            let over = sets_overlay (head ++ rs) old (omega (arith, types_bytes t, size)) in
            record {
              answer = rw (passes, count_is, le-ltb (length old) (5 + 3 * count) le);
              file = all ∙ over ∙ rw (passes, count_is, le-ltb (length old) (5 + 3 * count) le, size);
            }
