-- The count, then the bytes left over: each return is one test of the definition.
use Rattle.base.proofs.CaseLaws.{cases}
use Rattle.file.specs.Reading.{closing_of}
use borrow.Author.Rules.{rules}
use Rattle.file_tell.proofs.close.Goals as goal

pub returns-then-header_count-count : goal.returns-then-header_count-count
unfolding closing_of
returns-then-header_count-count c = search (cases, rules)

pub returns-then-at-file : goal.returns-then-at-file
unfolding closing_of
returns-then-at-file c = search (cases, rules)

pub returns : goal.returns
unfolding closing_of
returns c = search (cases, rules)
