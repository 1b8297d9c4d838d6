-- Reading a block and reading four blocks call each other; twice the level, and one more for four, falls at each call.
use Prim.Native.Nat.{◌+◌, ◌*◌}
use Rattle.file_tell.proofs.+read_block_read_four.Given as goal

abbrev pub decreases-read_block : goal.decreases-read_block
decreases-read_block l = 2 * l.level

abbrev pub decreases-read_four : goal.decreases-read_four
decreases-read_four l = 2 * l.level + 1
