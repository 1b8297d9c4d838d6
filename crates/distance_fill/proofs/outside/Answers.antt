use native.Mathlib.Omega.{arith}
use mathlib.Core.Path.{◌≡◌}
use Prim.Native.Nat.{◌-◌}
use Rattle.distance_fill.proofs.HandedLaws.{land_black, land_last, none_more}
use Rattle.distance_fill.proofs.outside.Goals as goal

pub overflow_sub-last : goal.overflow_sub-last
overflow_sub-last c = omega (arith, c.node_count-last.ensures, c.args.sheet.now.accepted.sized.some)

pub loop-p-init : goal.loop-p-init
loop-p-init c = λ j lt. absurd (omega arith)

pub word_at-requires : goal.word_at-requires
word_at-requires c = (omega (arith, c.node_count-last.ensures), omega arith)

pub overflow_cast-result : goal.overflow_cast-result
overflow_cast-result c = omega (arith, c.node_count-last.ensures, c.args.sheet.now.accepted.sized.few)

pub returns-then-word_at-eq-BLACK : goal.returns-then-word_at-eq-BLACK
returns-then-word_at-eq-BLACK c = land_black _ _ c.args.sheet.now.accepted _ _ (omega (arith, c.node_count-last.ensures)) c.word_at.ensures c.if-word_at-eq-BLACK.true

pub loop-p-preserved : goal.loop-p-preserved
loop-p-preserved c = none_more c.args.sheet.now.table.now c.loop-p.p c.loop-p.invariant _ c.word_at.ensures c.if-word_at-eq-BLACK.false

pub overflow_cast-result-2 : goal.overflow_cast-result-2
overflow_cast-result-2 c = omega (arith, c.node_count-last.ensures, c.args.sheet.now.accepted.sized.few)

pub returns : goal.returns
returns c =
    let whole : c.node_count-last.result - 1 ≡ c.loop-p.p = omega arith in
    land_last _ _ c.args.sheet.now.accepted _ (omega (arith, c.node_count-last.ensures, c.args.sheet.now.accepted.sized.some)) (rw whole c.loop-p.invariant)
