use mathlib.Core.Path.{sym, ◌∙◌}
use native.Mathlib.Omega.{arith}
use Rattle.table.proofs.TypeLaws.{told_leaf}
use Rattle.table_sound.proofs.SeenLaws.{none_seen, some_is, none_told, some_told, seen_most, node_of_son, son_seen, added_none, added_stop, added_more, seen_leaf, seen_no_leaf, seen_fork}
use Prim.Native.Nat.{◌-◌}
use Rattle.table_seen.proofs.+seen.Goals.{then-word_at-eq-FORK+in_ok-all, else-word_at-eq-FORK+then-leaf_ok}
use Rattle.table_seen.proofs.+seen.Goals as goal

pub loop-q-init : goal.loop-q-init
loop-q-init t c = record {
  sons = seen_fork _ _ _ c.requires.1 (λ z. omega arith) (sym c.if-not-fork_ok.ensures);
  some = omega arith;
  few = omega arith;
}

pub word_at-requires : goal.word_at-requires
word_at-requires t c = (rw c.word_at-son.ensures (node_of_son _ _ _ (sym c.if-not-fork_ok.ensures) (omega arith)), omega arith)

pub returns-in_err-all : goal.returns-in_err-all
returns-in_err-all t c =
    let l = c.loop-q in
    let x = son_seen _ _ _ _ _ _ c.word_at-son.ensures (sym (none_told _ c.in_err-all.ensures)) in
    c.from_residual.ensures ∙ none_seen _ (sym (added_stop _ l.q l.all (omega arith) (sym x) ∙ l.invariant.sons))

pub overflow_add-all : goal.overflow_add-all
overflow_add-all t c =
    let m = seen_most _ _ _ _ (some_told _ _ c.in_ok-all.ensures).0 (omega (arith, c.requires.3)) in
    omega (arith, m)

pub leaf_ok-requires : goal.leaf_ok-requires
leaf_ok-requires t c = rw c.word_at-son.ensures (node_of_son _ _ _ (sym c.if-not-fork_ok.ensures) (omega arith))

pub returns-else-leaf_ok : goal.returns-else-leaf_ok
returns-else-leaf_ok t c =
    let l = c.loop-q in
    let z = seen_no_leaf _ _ _ (told_leaf c.args.table.now c.word_at-son.result _ c.word_at.ensures c.if-word_at-eq-FORK.false) (sym c.if-leaf_ok.ensures) in
    let x = son_seen _ _ _ _ _ _ c.word_at-son.ensures (sym z) in
    none_seen _ (sym (added_stop _ l.q l.all (omega arith) (sym x) ∙ l.invariant.sons))

pub loop-q-preserved : goal.loop-q-preserved
loop-q-preserved t c =
    let l = c.loop-q in
    elim c.if-word_at-eq-FORK.branch [
      | then-word_at-eq-FORK+in_ok-all w ↦
          let e = some_told _ _ w.in_ok-all.ensures in
          let x = son_seen _ _ _ _ _ _ c.word_at-son.ensures e.0 in
          let m = seen_most _ _ _ _ e.0 (omega (arith, c.requires.3)) in
          rw w.all-is (record {
            sons = added_more _ l.q l.all _ (omega arith) x (λ z. omega (arith, e.1)) ∙ l.invariant.sons;
            some = omega arith;
            few = omega (arith, m);
          })
      | else-word_at-eq-FORK+then-leaf_ok w ↦
          let z = seen_leaf _ _ _ (told_leaf c.args.table.now c.word_at-son.result _ c.word_at.ensures w.if-word_at-eq-FORK.false) (sym w.if-leaf_ok.ensures) in
          let x = son_seen _ _ _ _ _ _ c.word_at-son.ensures (sym z) in
          rw w.all-is (record {
            sons = added_more _ l.q l.all 1 (omega arith) x (λ e. omega arith) ∙ l.invariant.sons;
            some = omega arith;
            few = omega arith;
          })
    ]

pub returns : goal.returns
returns t c =
    let l = c.loop-q in
    some_is _ l.all (added_none _ (4 - l.q) l.q l.all (omega arith) ∙ l.invariant.sons) (omega arith)
