-- `file_read::link_pixels`: the fork's six words, and then those of each pixel, behind the one before.
use Rattle.file_read.proofs.LinkLaws.{PixelsPut}
use Rattle.file_read.proofs.link_pixels.Given as goal

abbrev pub invariant-loop-son : goal.invariant-loop-son
invariant-loop-son l = PixelsPut l.file l.p l.father l.son l.fn.table l.table
