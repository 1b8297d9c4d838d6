use Rattle.walk_rows.proofs.TallyLaws.{set_out, links_few, arrived, gone_on, step_less}
use Rattle.rows.proofs.print_rows.Goals as goal

pub loop-out-init : goal.loop-out-init
loop-out-init g c = set_out _ _ c.requires _ c.start-place.ensures

pub returns-in-Done : goal.returns-in-Done
returns-in-Done g c = arrived _ _ c.requires _ _ c.loop-out.invariant _ c.step-s.ensures c.in-Done.is

pub with_link-links-requires : goal.with_link-links-requires
with_link-links-requires g c = links_few _ _ c.requires _ _ c.loop-out.invariant

pub loop-out-smaller : goal.loop-out-smaller
loop-out-smaller g c =
    step_less _ _ c.requires _ _ c.loop-out.invariant _ c.step-s.ensures c.in_default.not-Done

pub loop-out-preserved : goal.loop-out-preserved
loop-out-preserved g c =
    gone_on _ _ c.requires _ _ c.loop-out.invariant _ c.step-s.ensures c.in_default.not-Done _ c.with_link-links.ensures.0
