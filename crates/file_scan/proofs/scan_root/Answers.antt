-- `file_scan::scan_root`: a leaf's record, or a fork's and four blocks.
use Rattle.std.proofs.Common.{arith, sym, ◌∙◌}
use Rattle.file.proofs.ScanLaws.{fits_three, block_refused, leaf_ends, fork_deep, fork_ends, pixels_end}
use Rattle.file_scan.proofs.scan_root.Goals as goal

pub returns-then-not-has_record : goal.returns-then-not-has_record
returns-then-not-has_record c = block_refused _ _ _ c.if-not-has_record.ensures

pub type_at-requires : goal.type_at-requires
type_at-requires c = fits_three c.args.file.now c.args.level 5 c.requires c.if-not-has_record.ensures

pub returns-then-type_at-ne-FORK : goal.returns-then-type_at-ne-FORK
returns-then-type_at-ne-FORK c = leaf_ends c.args.file.now c.args.level 5 c.requires c.if-not-has_record.ensures _ c.type_at.ensures c.if-type_at-ne-FORK.true

pub returns-in-0 : goal.returns-in-0
returns-in-0 c = fork_deep c.args.file.now c.args.level 5 c.requires c.if-not-has_record.ensures _ c.type_at.ensures c.if-type_at-ne-FORK.false c.in-0.is

pub returns-in-1 : goal.returns-in-1
returns-in-1 c = pixels_end c.args.file.now c.args.level 5 c.requires c.if-not-has_record.ensures _ c.type_at.ensures _ c.if-type_at-ne-FORK.false c.in-1.is (c.then_some.ensures ∙ sym c.pixels_stand.ensures)

pub returns-in_default : goal.returns-in_default
returns-in_default c = fork_ends c.args.file.now c.args.level 5 c.requires c.if-not-has_record.ensures _ c.type_at.ensures _ c.if-type_at-ne-FORK.false (λ z. omega (arith, z)) c.scan.ensures
