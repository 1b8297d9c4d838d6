-- `table_rules::sons_ok` is rule 4: the words from q on are as good as all four. The measure is the words left. Assumes
-- nothing.
use Rattle.table.specs.Rules.{all_of, word_ok}
use Prim.Native.Nat.{◌-◌, ◌≤◌}
use mathlib.Core.Path.{◌≡◌}
use Rattle.table_rules.proofs.sons_ok.Given as goal

abbrev pub invariant-loop-q : goal.invariant-loop-q
invariant-loop-q l = (l.q ≤ 4) × (all_of (word_ok l.table l.p) (4 - l.q) l.q ≡ all_of (word_ok l.table l.p) 4 0)
