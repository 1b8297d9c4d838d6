-- What the statements of the two calls settle: a refusal changes nothing, and an answer gives document 01's table or
-- raster; then building and decoding undo each other, in any numbering.
use Rattle.std.specs.Prelude.{Ok, Err}
use mathlib.Core.Bool.{true, false}
use mathlib.Core.List.{List}
use mathlib.Core.Path.{◌≡◌, refl, ap, sym, ◌∙◌}
use Prim.Native.Nat.{ℕ, ◌*◌, ◌^◌, ◌≤◌}
use native.Mathlib.Omega.{arith}
use lib.Dec.{ltb}
use lib.ListN.{length, take, drop}
use lib.Seq.{take_at, drop_at}
use borrow.Author.Tests.{eq-eqb, le-ltb, ltb-false}
use Rattle.base.specs.Tab.{overlay}
use Rattle.answer.specs.declared.Refusal.TheVariants.{NoRoom}
use Rattle.answer.specs.Numbers.{Outcome, value_of, answers, room}
use Rattle.answer.proofs.OutcomeLaws.{both_answer, answers_unless}
use Rattle.quad.specs.Numbers.{top_level, none}
use Rattle.quad.specs.Tree.{size_of}
use Rattle.table.specs.Table.{nodes}
use Rattle.table.specs.Rules.{sizes_of, faults_of, check_of, Accepted}
use Rattle.table.specs.Nodes.{tree_at}
use Rattle.table.specs.Preorder.{preorder_table}
use Rattle.table.proofs.CheckLaws.{sizes_good, check_accepted, accepted_of}
use Rattle.table.proofs.PreorderLaws.{preorder_length}
use Rattle.table.proofs.SizeLaws.{tree_size}
use Rattle.raster.specs.Raster.{raster_tree, raster_of, raster_length, build_of, built_table, decode_of, decoded_raster}
use Rattle.raster.specs.Calls.{Building, Decoding}
use Rattle.raster.specs.Blocks.{Picture, readable_of}
use Rattle.raster.proofs.TestLaws.{pixels_pass, length_of, readable_picture}
use Rattle.raster.proofs.BuildLaws.{build_then}
use Rattle.raster.proofs.RoundTrips.{built_accepted, built_decoded, decoded_tree, decoded_picture, one_raster_one_tree, one_tree_one_raster}

-- a refusal changes nothing
pub build_refused : (n : ℕ) (R before : List ℕ) (o : Outcome) (after : List ℕ) → Building n R before o after → answers o ≡ false → after ≡ before
unfolding built_table
build_refused n R before o after h f = h.table ∙ rw (← h.answer, f)

pub decode_refused : (n : ℕ) (T before : List ℕ) (o : Outcome) (after : List ℕ) → Decoding n T before o after → answers o ≡ false → after ≡ before
unfolding decoded_raster
decode_refused n T before o after h f = h.raster ∙ rw (← h.answer, f)

-- an answer of building: the node count of the raster's one tree, that tree's preorder table at the start, and the rest
-- as it was
pub record Built (n : ℕ) (R before : List ℕ) (count : ℕ) (after : List ℕ) : Type 0 where
  pub picture : Picture n R
  pub size : count ≡ size_of (raster_tree n R)
  pub fits : 6 * count ≤ length before
  pub start : take (6 * count) after ≡ preorder_table (raster_tree n R)
  pub rest : drop (6 * count) after ≡ drop (6 * count) before

pub build_answered : (n : ℕ) (R before : List ℕ) (count : ℕ) (after : List ℕ) → Building n R before (Ok count) after → Built n R before count after
unfolding built_table raster_tree
build_answered n R before count after h =
    let t = raster_tree n R in
    let len = preorder_length none 0 t in
    let ok : answers (build_of n R (length before)) ≡ true = rw (← h.answer) refl in
    let g = both_answer (readable_of n R) _ (rw (build_then n R before) at ok) in
    let r = both_answer (room (6 * size_of t) (length before)) (Ok (size_of t)) g.1 in
    let le : 6 * size_of t ≤ length before = ltb-false _ _ (answers_unless (ltb (length before) (6 * size_of t)) (Err (NoRoom (6 * size_of t))) refl r.0) in
    let e : Ok count ≡ Ok (size_of t) = h.answer ∙ build_then n R before ∙ rw (g.0, le-ltb _ _ le) in
    let c : count ≡ size_of t = ap value_of e in
    let w : after ≡ overlay (preorder_table t) before = h.table ∙ rw ok in
    record {
      picture = readable_picture n R g.0;
      size = c;
      fits = omega arith;
      start = rw w (take_at (preorder_table t) _ (6 * count) (omega arith));
      rest = rw w (drop_at (preorder_table t) _ (6 * count) (omega arith) ∙ rw (len, c));
    }

-- building answers for every raster of colours, where there is room
picture_readable : (n : ℕ) (R : List ℕ) → Picture n R → readable_of n R ≡ Ok 0
unfolding readable_of
picture_readable n R p = rw (readable_of, le-ltb top_level n p.top, eq-eqb (length R) (4 ^ n) p.whole, pixels_pass R 0 (λ j lt. p.colours j))

pub build_value : (n : ℕ) (R before : List ℕ) (o : Outcome) (after : List ℕ) → Picture n R → 6 * size_of (raster_tree n R) ≤ length before
    → Building n R before o after → o ≡ Ok (size_of (raster_tree n R))
unfolding raster_tree
build_value n R before o after p le h =
    h.answer ∙ build_then n R before ∙ rw (picture_readable n R p, le-ltb (length before) (6 * size_of (raster_tree n R)) le)

-- an answer of decoding: the table is accepted, and every byte is its picture's
pub record Decoded (n : ℕ) (T before after : List ℕ) : Type 0 where
  pub accepted : Accepted n T
  pub whole : length before ≡ 4 ^ n
  pub picture : after ≡ raster_of n T

pub decode_answered : (n : ℕ) (T before : List ℕ) (v : ℕ) (after : List ℕ) → Decoding n T before (Ok v) after → Decoded n T before after
unfolding decode_of decoded_raster check_of
decode_answered n T before v after h =
    let ok : answers (decode_of n T (length before)) ≡ true = rw (← h.answer) refl in
    let g = both_answer (sizes_of n T) _ ok in
    let r = both_answer (raster_length n (length before)) _ g.1 in
    let f = both_answer (faults_of n T) (Ok 0) r.1 in
    record { accepted = accepted_of n T (rw (check_of, g.0) f.0); whole = length_of n (length before) r.0; picture = h.raster ∙ rw ok }

-- decoding answers for every accepted table, where the raster has its length
pub decode_value : (n : ℕ) (T before : List ℕ) (o : Outcome) (after : List ℕ) → Accepted n T → length before ≡ 4 ^ n → Decoding n T before o after → o ≡ Ok 0
unfolding decode_of check_of
decode_value n T before o after acc e h =
    let s = sizes_good n T acc.sized in
    let f : faults_of n T ≡ Ok (nodes T) = rw s at (check_accepted n T acc) in
    h.answer ∙ rw (decode_of, s, eq-eqb (length before) (4 ^ n) e, f)

-- the table that building leaves at the start is accepted
pub build_accepted : (n : ℕ) (R before : List ℕ) (count : ℕ) (after : List ℕ) → Building n R before (Ok count) after → Accepted n (take (6 * count) after)
build_accepted n R before count after h =
    let b = build_answered n R before count after h in
    rw b.start (built_accepted n R b.picture)

-- build, then decode: the raster again
pub build_decode : (n : ℕ) (R before : List ℕ) (count : ℕ) (after old : List ℕ) (o : Outcome) (new : List ℕ) → Building n R before (Ok count) after
    → length old ≡ 4 ^ n → Decoding n (take (6 * count) after) old o new → (o ≡ Ok 0) × (new ≡ R)
build_decode n R before count after old o new h e d =
    let b = build_answered n R before count after h in
    let a : o ≡ Ok 0 = decode_value n (take (6 * count) after) old o new (build_accepted n R before count after h) e d in
    let r = decode_answered n (take (6 * count) after) old 0 new (rw a at d) in
    (a, r.picture ∙ rw b.start (built_decoded n R b.picture))

-- decode, then build: the preorder table of that table's one tree, whatever the table's numbering
pub decode_build : (n : ℕ) (T old : List ℕ) (v : ℕ) (R before : List ℕ) (o : Outcome) (after : List ℕ) → Decoding n T old (Ok v) R
    → 6 * nodes T ≤ length before → Building n R before o after → (o ≡ Ok (nodes T)) × (take (6 * nodes T) after ≡ preorder_table (tree_at T n 0))
decode_build n T old v R before o after d le h =
    let r = decode_answered n T old v R d in
    let acc = r.accepted in
    let t : raster_tree n R ≡ tree_at T n 0 = rw r.picture (decoded_tree n T acc) in
    let s : size_of (raster_tree n R) ≡ nodes T = rw t (tree_size n T acc) in
    let p : Picture n R = rw r.picture (decoded_picture n T acc) in
    let a : o ≡ Ok (nodes T) = rw (← s) (build_value n R before o after p (omega arith) h) in
    let b = build_answered n R before (nodes T) after (rw a at h) in
    (a, b.start ∙ rw t)

-- two accepted tables with one raster have one tree, so one table is built from it; one tree has one raster
pub decode_same : (n : ℕ) (T U old kept : List ℕ) (v w : ℕ) (R : List ℕ) → Decoding n T old (Ok v) R → Decoding n U kept (Ok w) R
    → tree_at T n 0 ≡ tree_at U n 0
decode_same n T U old kept v w R h k =
    let a = decode_answered n T old v R h in
    let b = decode_answered n U kept w R k in
    one_raster_one_tree n T U a.accepted b.accepted (sym a.picture ∙ b.picture)

pub decode_any_numbering : (n : ℕ) (T U old kept : List ℕ) (v w : ℕ) (R S : List ℕ) → tree_at T n 0 ≡ tree_at U n 0
    → Decoding n T old (Ok v) R → Decoding n U kept (Ok w) S → R ≡ S
decode_any_numbering n T U old kept v w R S e h k =
    (decode_answered n T old v R h).picture ∙ one_tree_one_raster n T U e ∙ sym (decode_answered n U kept w S k).picture
