use mathlib.Core.Path.{refl, ◌∙◌}
use Rattle.ponds_queues.proofs.WordLaws.{reach_on, reach_top, steps_fall}
use Rattle.ponds_ranks.proofs.follow.Goals as goal

pub loop-at-init : goal.loop-at-init
loop-at-init c = (c.requires.there, λ end far h. refl)

pub bounds-words-at : goal.bounds-words-at
bounds-words-at c = c.loop-at.invariant.0 c.loop-at-test.true

pub loop-at-smaller : goal.loop-at-smaller
loop-at-smaller c = let h = c.requires in
    let l = c.loop-at-test.true in
    steps_fall _ h.end h.far h.ends _ (c.loop-at.invariant.0 l) l

pub loop-at-preserved : goal.loop-at-preserved
loop-at-preserved c = let h = c.requires in
    let l = c.loop-at-test.true in
    let v = c.loop-at.invariant in
    (h.ends.low _ (v.0 l), λ end far e. reach_on _ end far e _ (v.0 l) l ∙ v.1 end far e)

pub returns : goal.returns
returns c = λ end far e. reach_top end _ c.loop-at-test.false ∙ c.loop-at.invariant.1 end far e
