-- `ponds_find::in_words`: the numbers, and the register only where they were found.
use Rattle.ponds.specs.Entries.{words_of}
use Rattle.ponds_find.proofs.CallLaws.{found_none, found_ready, found_all}
use Rattle.ponds_find.proofs.in_words.Goals as goal

pub returns-in_err-count : goal.returns-in_err-count
returns-in_err-count c = found_none _ _ words_of 5 _ _ _ _ c.in_err-count.ensures _ c.from_residual.ensures

pub fill-requires : goal.fill-requires
fill-requires c = found_ready _ _ words_of 5 _ c.args.reg.now _ _ c.in_ok-count.ensures

pub returns : goal.returns
returns c = found_all _ _ words_of 5 _ _ _ _ c.in_ok-count.ensures _ c.fill.ensures
