use Rattle.table.proofs.RuleLaws.{rising_zero, rising_more, passed, from_none, from_sound, from_fault, obeyed_ok, obeyed_err}
use Rattle.table.specs.Rules.{fault_at, fault_from, faults_of}
use Rattle.table.specs.Table.{nodes}
use Rattle.std.proofs.lemmas.Result.{err_from_is_err_and}
use Prim.Native.Nat.{ℕ, ◌-◌}
use mathlib.Core.Path.{◌≡◌, refl, sym, ap, ◌∙◌}
use native.Mathlib.Omega.{arith}
use Rattle.table_rules.proofs.first_fault.Goals as goal

pub loop-p-init : goal.loop-p-init
unfolding faults_of
loop-p-init c =
    let s = c.args in
    let e : nodes s.table.now - 0 ≡ nodes s.table.now = omega arith in
    (c.node_count-count.ensures, rising_zero s.table.now, ap (λ (k : ℕ). fault_from s.n s.table.now k 0) e)

pub returns-in_err-obey : goal.returns-in_err-obey
returns-in_err-obey c =
    let s = c.args in
    let l = c.loop-p in
    let T = s.table.now in
    let b = obeyed_err _ _ _ c.in_err-obey.ensures in
    let p = err_from_is_err_and c.from_residual.result c.from_residual.ensures.1 in
    rw (p.1, p.2, b.1) (sym (from_fault s.n T (nodes T) l.p _ (omega arith) refl b.0) ∙ l.invariant.2)

pub loop-p-preserved : goal.loop-p-preserved
loop-p-preserved c =
    let s = c.args in
    let l = c.loop-p in
    let T = s.table.now in
    let z : fault_at s.n T l.p ≡ 0 = obeyed_ok _ _ _ c.in_ok-obey.ensures in (
      l.invariant.0,
      rising_more T l.p l.invariant.1 (passed s.n T l.p z).up,
      sym (from_sound s.n T (nodes T) l.p (omega arith) z) ∙ l.invariant.2,
    )

pub returns : goal.returns
returns c =
    let s = c.args in
    let l = c.loop-p in
    let e : l.p ≡ c.node_count-count.result = omega arith in
    rw (← e) (sym (from_none s.n s.table.now (nodes s.table.now - l.p) l.p (omega arith)) ∙ l.invariant.2)
