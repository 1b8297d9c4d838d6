use Rattle.table.proofs.RuleLaws.{depth_root, depth_none, depth_more, rising_at}
use Rattle.table.specs.Rules.{depth_to}
use Prim.Native.Nat.{ℕ, ◌+◌, ◌-◌}
use mathlib.Core.Path.{◌≡◌, ap}
use native.Mathlib.Omega.{arith}
use Rattle.table_node.proofs.depth_to.Goals as goal

pub loop-k-init : goal.loop-k-init
loop-k-init c =
    let n : ℕ = c.args.n in
    let e : n - 0 ≡ n = omega arith in
    (omega arith, omega (arith, ap (λ (m : ℕ). depth_to c.args.table.now m c.args.p) e))

pub returns-then-q-eq0 : goal.returns-then-q-eq0
returns-then-q-eq0 c =
    let s = c.args in
    let l = c.loop-k in
    omega (arith, ap (depth_to s.table.now (s.n - l.k)) c.if-q-eq0.true, depth_root s.table.now (s.n - l.k))

pub loop-k-preserved : goal.loop-k-preserved
loop-k-preserved c =
    let m = c in
    let s = m.args in
    let pre = m.requires in
    let l = c.loop-k in
    let T = s.table.now in
    let up = rising_at T (s.p + 1) l.q pre.1 (omega arith) c.if-q-eq0.false in
    let more = depth_more T s.n l.k l.q (omega arith) c.if-q-eq0.false in
    (omega (arith, up), omega (arith, more, ap (depth_to T (s.n - (l.k + 1))) c.word_at-q.ensures))

pub returns : goal.returns
returns c =
    let s = c.args in
    let l = c.loop-k in
    let e : s.n - l.k ≡ 0 = omega arith in
    omega (arith, ap (λ (m : ℕ). depth_to s.table.now m l.q) e, depth_none s.table.now l.q)
