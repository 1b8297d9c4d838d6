-- `ponds_join::root`: the leader, and p's word set to it.
use borrow.Author.Rules.{rules}
use Rattle.ponds_join.proofs.JoinLaws.{root_own, root_shorter}
use Rattle.ponds_join.proofs.root.Goals as goal

pub returns-then-r-p : goal.returns-then-r-p
returns-then-r-p c = search (root_shorter, rules)
