-- `file_read::link_pixels`: the fork's six words, and then those of each pixel, behind the one before.
use Rattle.std.proofs.Common.{arith}
use Rattle.file_read.proofs.LinkLaws.{fork_to_link, pixels_fit, pixels_room, none_of_pixels, pixel_put, all_linked}
use Rattle.file_read.proofs.link_pixels.Goals as goal

pub put_node-requires : goal.put_node-requires
put_node-requires c = omega (arith, pixels_room (fork_to_link c.requires))

pub loop-son-init : goal.loop-son-init
loop-son-init c = none_of_pixels c.put_node.ensures

pub type_of-requires : goal.type_of-requires
type_of-requires c = omega (arith, pixels_fit (fork_to_link c.requires))

pub put_leaf-requires : goal.put_leaf-requires
put_leaf-requires c = omega (arith, pixels_room (fork_to_link c.requires))

pub loop-son-preserved : goal.loop-son-preserved
loop-son-preserved c = pixel_put c.loop-son.invariant (omega arith) c.type_of.ensures c.put_leaf.ensures

pub returns : goal.returns
returns c = all_linked (fork_to_link c.requires) c.loop-son.invariant (omega arith)
