use Rattle.std.proofs.Common.{◌≡◌, ◌<◌, ◌-◌, suc, length, get_or, arith, ◌∙◌, rules}
use Rattle.std.proofs.Math.ListN.{replicate}
use Rattle.table.specs.Table.{nodes}
use Rattle.ponds_entries.proofs.SliceLaws.{filled_none, filled_length, filled_all, filled_same, filled_more, filled_fits}
use Rattle.ponds_entries.proofs.fill.Goals as goal
use Rattle.ponds_entries.proofs.fill.Goals.{then-number-ne0, else-number-ne0}

pub loop-p-init : goal.loop-p-init
loop-p-init c =
    let e : c.fill.new.self ≡ replicate c.args.count c.empty.result = search rules in
    rw (e, c.empty.ensures) (filled_none c.args.n c.args.table.now c.args.numbers.now c.args.count c.args.reg.now)

-- the node passed has the number of a pond
pub grow-requires : goal.grow-requires
grow-requires c =
    let s = c.args in
    let sheet = c.requires.0 in
    let p = c.loop-p.p in
    let k = get_or s.numbers.now p 0 in
    let node : p < nodes s.table.now = omega (arith, c.loop-p-test.true, sheet.words) in
    let few : k - 1 < s.count = omega (arith, c.if-number-ne0.true, sheet.few p node) in
    let there : k - 1 < length c.loop-p.reg = rw c.loop-p.invariant (omega (arith, few, filled_length s.n s.table.now s.numbers.now s.count s.reg.now p c.requires.1)) in
    (there, rw (c.block_of-b.ensures, c.loop-p.invariant) (filled_fits s.n s.table.now s.numbers.now s.count s.reg.now p (k - 1) few sheet node))

pub loop-p-preserved : goal.loop-p-preserved
loop-p-preserved c =
    let s = c.args in
    let sheet = c.requires.0 in
    let p = c.loop-p.p in
    let k = get_or s.numbers.now p 0 in
    elim c.if-number-ne0.branch [
      | then-number-ne0 w ↦
          let few : k - 1 < s.count = omega (arith, w.if-number-ne0.true, sheet.few p (omega (arith, c.loop-p-test.true, sheet.words))) in
          let named : k ≡ suc (k - 1) = omega (arith, w.if-number-ne0.true) in
          rw (w.reg-is, w.grow.ensures, w.block_of-b.ensures, c.loop-p.invariant)
          (filled_more s.n s.table.now s.numbers.now s.count s.reg.now p (k - 1) few named)
      | else-number-ne0 w ↦
          let none : k ≡ 0 = search rules in
          w.reg-is ∙ c.loop-p.invariant ∙ filled_same s.n s.table.now s.numbers.now s.count s.reg.now p none
    ]

pub returns : goal.returns
returns c =
    let e : c.loop-p.p ≡ nodes c.args.table.now = omega (arith, c.loop-p-test.false, c.loop-p.auto.p-end, c.requires.0.words) in
    c.loop-p.invariant ∙ filled_all c.args.n c.args.table.now c.args.numbers.now c.args.count c.args.reg.now c.requires.0 c.loop-p.p e
