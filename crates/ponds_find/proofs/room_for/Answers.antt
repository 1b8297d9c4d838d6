-- `ponds_find::room_for`: enough for the most that a sheet can have is enough, and else the count decides. Assumes
-- nothing.
use native.Mathlib.Omega.{arith}
use borrow.Author.Rules.{rules}
use Rattle.ponds_find.proofs.BlackLaws.{need_few, room_for_most, no_room, all_passed}
use Rattle.ponds_find.proofs.room_for.Goals as goal

pub returns-then-wide-have : goal.returns-then-wide-have
returns-then-wide-have c = search (room_for_most, rules)

pub overflow_mul-need : goal.overflow_mul-need
overflow_mul-need c = omega (arith, need_few _ _ _ c.requires.1 c.requires.2 c.black_leaves.ensures)

pub overflow_cast-result : goal.overflow_cast-result
overflow_cast-result c = omega (arith, need_few _ _ _ c.requires.1 c.requires.2 c.black_leaves.ensures)

pub returns-then-have-need : goal.returns-then-have-need
returns-then-have-need c = search (no_room, rules)

pub returns : goal.returns
returns c = search (all_passed, rules)
