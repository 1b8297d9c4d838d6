-- `table_node::son_type`: of the father's first three sons the first that p is, or the last.
use mathlib.Core.Path.{refl}
use Rattle.table.specs.Links.{four_sons}
use Rattle.table.specs.Nodes.{first_quadrant, son_type}
use Rattle.table_node.proofs.son_type.Goals as goal

pub returns : goal.returns
unfolding son_type first_quadrant four_sons
returns c = rw (c.pick-3.ensures, c.pick-2.ensures, c.pick.ensures, c.four_sons.ensures, c.word_at.ensures, four_sons) refl
