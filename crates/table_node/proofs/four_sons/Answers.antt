-- `table_node::four_sons`: the four words.
use mathlib.Core.Path.{refl}
use Rattle.table.specs.Links.{four_sons}
use Rattle.table_node.proofs.four_sons.Goals as goal

pub returns : goal.returns
unfolding four_sons
returns c = rw (c.word_at.ensures, c.word_at-2.ensures, c.word_at-3.ensures, c.word_at-4.ensures) refl
