-- `table_check::faults`: what is seen whole has no fault; anything else is gone through.
use Rattle.table_sound.proofs.SoundLaws.{sound_answered}
use borrow.Author.Rules.{rules}
use Rattle.table_check.proofs.faults.Goals as goal

pub returns-then-sound : goal.returns-then-sound
returns-then-sound c = search (sound_answered, rules)
