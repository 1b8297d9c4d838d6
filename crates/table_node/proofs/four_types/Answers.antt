-- `table_node::four_types`: four types, one after the other.
use mathlib.Core.Path.{refl}
use Rattle.table.specs.Links.{four_types}
use Rattle.table_node.proofs.four_types.Goals as goal

pub returns : goal.returns
unfolding four_types
returns c = rw (c.type_of_son.ensures, c.type_of_son-2.ensures, c.type_of_son-3.ensures, c.type_of_son-4.ensures) refl
