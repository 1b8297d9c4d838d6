use Rattle.std.proofs.Common.{arith, ap, sym, ◌∙◌, ◌≡◌, Some}
use Rattle.file.specs.File.{block_at}
use Rattle.file.specs.Reading.{place_after}
use Rattle.file.proofs.ScanLaws.{fits_three, four_after, block_refused, scan_refused, scan_on, leaf_ends, fork_ends, pixels_end, ends_within, ends_alike, ends_unlike}
use Rattle.file_scan.proofs.+scan.Goals.{then-kind-eq-FORK+then-level-gt1+in_ok-next, then-kind-eq-FORK+else-level-gt1+then-pixels_stand, else-kind-eq-FORK}
use Rattle.file_scan.proofs.+scan.Goals as goal

pub loop-q-init : goal.loop-q-init
loop-q-init t c = (c.requires.1, four_after _ _ _)

pub returns-then-not-has_record : goal.returns-then-not-has_record
returns-then-not-has_record t c = scan_refused _ _ _ _ _ _ c.loop-q.invariant.1 (omega arith) (block_refused _ _ _ c.if-not-has_record.ensures)

pub type_at-kind-requires : goal.type_at-kind-requires
type_at-kind-requires t c = fits_three _ c.args.level _ c.loop-q.invariant.0 c.if-not-has_record.ensures

pub returns-in_err-next : goal.returns-in_err-next
returns-in_err-next t c =
    let ends = fork_ends _ c.args.level _ c.loop-q.invariant.0 c.if-not-has_record.ensures _ c.type_at-kind.ensures _ c.if-kind-eq-FORK.true (λ z. omega (arith, c.requires.0, z)) c.in_err-next.ensures in
    c.from_residual.ensures ∙ scan_refused _ _ _ _ _ _ c.loop-q.invariant.1 (omega arith) ends

pub returns-else-pixels_stand : goal.returns-else-pixels_stand
returns-else-pixels_stand t c =
    let one : c.args.level ≡ 1 = omega (arith, c.requires.0, c.if-level-gt1.false) in
    let ends = pixels_end _ c.args.level _ c.loop-q.invariant.0 c.if-not-has_record.ensures _ c.type_at-kind.ensures _ c.if-kind-eq-FORK.true one (sym (rw c.if-pixels_stand.false at c.pixels_stand.ensures)) in
    scan_refused _ _ _ _ _ _ c.loop-q.invariant.1 (omega arith) ends

pub loop-q-preserved : goal.loop-q-preserved
loop-q-preserved t c =
    let le = c.loop-q.invariant.0 in
    let ends : Some c.if-kind-eq-FORK.next ≡ place_after (block_at c.args.file.now.now c.args.level c.loop-q.next) =
    elim c.if-kind-eq-FORK.branch [
      | then-kind-eq-FORK+then-level-gt1+in_ok-next w ↦
          ap Some w.next-is ∙ fork_ends _ c.args.level _ le c.if-not-has_record.ensures _ c.type_at-kind.ensures _ w.if-kind-eq-FORK.true (λ z. omega (arith, c.requires.0, z)) w.in_ok-next.ensures
      | then-kind-eq-FORK+else-level-gt1+then-pixels_stand w ↦
          let one : c.args.level ≡ 1 = omega (arith, c.requires.0, w.if-level-gt1.false) in
          ap Some w.next-is ∙ pixels_end _ c.args.level _ le c.if-not-has_record.ensures _ c.type_at-kind.ensures _ w.if-kind-eq-FORK.true one (sym (rw w.if-pixels_stand.true at w.pixels_stand.ensures))
      | else-kind-eq-FORK w ↦ ap Some w.next-is ∙ leaf_ends _ c.args.level _ le c.if-not-has_record.ensures _ c.type_at-kind.ensures w.if-kind-eq-FORK.false
    ] in
    (ends_within _ c.args.level _ _ le ends, scan_on _ _ _ _ _ _ c.loop-q.invariant.1 (omega arith) _ _ ends c.type_at-kind.ensures)

pub returns-then-like_leaves : goal.returns-then-like_leaves
returns-then-like_leaves t c = ends_alike _ _ _ _ _ _ c.loop-q.invariant.1 (omega arith) _ c.like_leaves.ensures c.if-like_leaves.true

pub returns : goal.returns
returns t c = ends_unlike _ _ _ _ _ _ c.loop-q.invariant.1 (omega arith) _ c.like_leaves.ensures c.if-like_leaves.false
