-- `type_ok` is rule 1.
use Rattle.table.specs.Rules.{type_ok}
use Rattle.table_rules.proofs.type_ok.Goals as goal

pub returns : goal.returns
unfolding type_ok
returns c = rw (type_ok, ← c.word_at.ensures) c.is_type.ensures
