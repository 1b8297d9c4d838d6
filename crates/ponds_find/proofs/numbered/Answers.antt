-- `ponds_find::numbered`: the tests, and the numbers only where they are passed.
use Rattle.ponds_find.proofs.CallLaws.{not_numbered, passed_call, numbered as numbered-law}
use Rattle.ponds_find.proofs.numbered.Goals as goal

pub returns-in_err-test : goal.returns-in_err-test
returns-in_err-test c = not_numbered _ _ _ _ _ _ c.in_err-test.ensures _ c.from_residual.ensures

pub number-requires : goal.number-requires
number-requires c = (passed_call _ _ _ _ c.args.numbers.now _ c.in_ok-test.ensures).1

pub invariant_of-sheet : goal.invariant_of-sheet
invariant_of-sheet c = record { accepted = (passed_call _ _ _ _ c.args.numbers.now _ c.in_ok-test.ensures).0 }

pub returns : goal.returns
returns c = numbered-law _ _ _ _ _ _ c.in_ok-test.ensures _ _ c.number.ensures
