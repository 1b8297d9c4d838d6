-- `file_write::put_record`: three bytes copied in.
use Rattle.std.proofs.Common.{arith, ℕ}
use Rattle.std.proofs.lemmas.Grind.{common_steps}
use Rattle.std.proofs.lemmas.List.Edits.{sets-eq}
use Rattle.file_write.proofs.put_record.Goals as goal

pub returns : goal.returns
returns c = grind (arith, common_steps, sets-eq {A = ℕ})
