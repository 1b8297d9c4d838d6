-- Building, from its refusals to the table: the outcome and the table that the call leaves, each way that it ends.
use Rattle.std.specs.Prelude.{Ok, Err}
use mathlib.Core.Bool.{false}
use mathlib.Core.List.{List}
use mathlib.Core.Path.{◌≡◌, refl, ap, sym, ◌∙◌}
use Prim.Native.Nat.{ℕ, ◌-◌, ◌*◌, ◌≤◌, ◌<◌}
use native.Mathlib.Omega.{arith}
use lib.Dec.{ltb}
use lib.ListN.{length}
use borrow.Author.Tests.{lt-ltb, le-ltb}
use Rattle.std.specs.Result.{IsErr, IsErrAnd}
use Rattle.answer.specs.declared.Refusal.{Refusal}
use Rattle.answer.specs.declared.Refusal.TheVariants.{BadLevel, NoRoom}
use Rattle.answer.specs.Numbers.{Outcome, answers, and_then, unless, room}
use Rattle.answer.proofs.OutcomeLaws.{then_then, refusal_refuses, given_back}
use Rattle.quad.specs.Numbers.{top_level, none}
use Rattle.quad.specs.Tree.{Tree, size_of, tree_of}
use Rattle.quad.proofs.TreeLaws.{size_fits}
use Rattle.quad.proofs.PictureLaws.{tree_within}
use Rattle.table.proofs.PreorderLaws.{written_whole}
use Rattle.raster.specs.Raster.{picture_of, raster_tree, raster_length, pixels_from, build_of, built_table}
use Rattle.raster.specs.Calls.{Building}
use Rattle.raster.specs.Blocks.{Picture, OnSheet, readable_of}
use Rattle.table.specs.Writing.{Ready, Put}
use Rattle.raster.proofs.TestLaws.{readable_picture}

-- the whole sheet is a block
pub sheet_on : (n : ℕ) → OnSheet n n 0 0
sheet_on n =
    let e : n - n ≡ 0 = omega arith in
    record { low = omega arith; across = rw e (omega arith); down = rw e (omega arith) }

module _ (n : ℕ) (R U : List ℕ) where
  abbrev tree : Tree
  tree = tree_of (picture_of n R) n 0 0

  pub build_then : build_of n R (length U) ≡ and_then (readable_of n R) (and_then (room (6 * size_of tree) (length U)) (Ok (size_of tree)))
  unfolding build_of readable_of raster_tree
  build_then =
      sym (
      then_then (unless (ltb top_level n) (Err (BadLevel 0))) (and_then (raster_length n (length R)) (pixels_from R 0)) _
      ∙ ap (and_then (unless (ltb top_level n) (Err (BadLevel 0)))) (then_then (raster_length n (length R)) (pixels_from R 0) _)
      )

  -- nothing is written where the outcome is no answer
  builds_not : (o : Outcome) → o ≡ build_of n R (length U) → answers o ≡ false → Building n R U o U
  unfolding built_table
  builds_not o e f = record { answer = e; table = rw (← e, f) }

  pub builds_refused : (o : Outcome) (e : Refusal) → IsErr o × IsErrAnd o (λ x. x ≡ e) → Err e ≡ readable_of n R → Building n R U o U
  builds_refused o e g h =
      let f : answers (Err e) ≡ false = refusal_refuses e in
      rw (given_back o e g) (builds_not (Err e) (sym (build_then ∙ rw (← h, f))) f)

  module _ (k : ℕ) (read : Ok k ≡ readable_of n R) where
    pub passed_picture : Picture n R
    passed_picture = readable_picture n R (ap answers (sym read))

    build_room : build_of n R (length U) ≡ and_then (room (6 * size_of tree) (length U)) (Ok (size_of tree))
    build_room = build_then ∙ rw (← read)

    module _ (m : ℕ) (em : m ≡ size_of tree) where
      pub builds_short : length U < 6 * m → Building n R U (Err (NoRoom (6 * m))) U
      builds_short lt = builds_not (Err (NoRoom (6 * m))) (sym (build_room ∙ rw (← em, lt-ltb (length U) (6 * m) lt))) refl

      pub builds_done : (v : ℕ) (after : List ℕ) → 6 * m ≤ length U → Put tree none 0 U after v → Building n R U (Ok v) after
      unfolding built_table raster_tree
      builds_done v after le p =
          let s : v ≡ m = omega (arith, p.next) in
          let b : build_of n R (length U) ≡ Ok v = build_room ∙ rw (← em, le-ltb (length U) (6 * m) le, s) in
          record { answer = sym b; table = rw b (written_whole tree U after (omega arith) p.words) }

  -- there is room for its tree
  pub sheet_ready : n ≤ top_level → (m : ℕ) → m ≡ size_of tree → 6 * m ≤ length U → Ready tree 0 (length U)
  sheet_ready top m em le = record { room = omega arith; few = omega (arith, size_fits n tree top (tree_within (picture_of n R) n 0 0)) }
