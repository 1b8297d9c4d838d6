-- `ponds_pixels::grown_four`: each number is the one of `grown_four`, and fits a word.
use Rattle.ponds_pixels.proofs.FourLaws.{four_is}
use borrow.Author.Rules.{rules}
use Rattle.ponds_pixels.proofs.grown_four.Goals as goal

pub returns : goal.returns
returns c = search (four_is, rules)
