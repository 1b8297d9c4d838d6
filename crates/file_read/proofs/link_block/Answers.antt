-- `file_read::link_block`: a fork, or a leaf's six words.
use Rattle.table.proofs.WritingLaws.{node_room}
use Rattle.file_read.proofs.LinkLaws.{to_link, type_asks, links_leaf}
use Rattle.file_read.proofs.link_block.Goals as goal

pub type_of-kind-requires : goal.type_of-kind-requires
type_of-kind-requires c = type_asks (to_link c.requires)

pub put_leaf-requires : goal.put_leaf-requires
put_leaf-requires c = node_room (to_link c.requires).ready

pub returns : goal.returns
returns c = links_leaf (to_link c.requires) c.type_of-kind.ensures c.if-kind-eq-FORK.false c.put_leaf.ensures
