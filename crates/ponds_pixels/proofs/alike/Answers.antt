-- `ponds_pixels::alike`: the product and the sum fit, since four words do.
use Rattle.ponds_pixels.proofs.FourLaws.{alike_is, times_fits}
use borrow.Author.Rules.{rules}
use Rattle.ponds_pixels.proofs.alike.Goals as goal

pub overflow_mul-result : goal.overflow_mul-result
overflow_mul-result c = search (times_fits, rules)

pub returns : goal.returns
returns c = search (alike_is, rules)
