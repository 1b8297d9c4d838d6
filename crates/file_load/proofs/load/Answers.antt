-- `load`: 15 for a sheet that is too large, else as the file is read.
use Rattle.file_load.proofs.LoadLaws.{load_large, load_read}
use borrow.Author.Rules.{rules}
use Rattle.file_load.proofs.load.Goals as goal

pub returns-then-too_large : goal.returns-then-too_large
returns-then-too_large c = search (load_large, rules)

pub returns : goal.returns
returns c = search (load_read, rules)
