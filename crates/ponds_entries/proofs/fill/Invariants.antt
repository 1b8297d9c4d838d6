-- `ponds_entries::fill`: the entry of a passed node's pond has grown by the node's block (`filled`).
use Rattle.std.proofs.Common.{◌≡◌}
use Rattle.ponds_entries.proofs.SliceLaws.{filled}
use Rattle.ponds_entries.proofs.fill.Given as goal

abbrev pub invariant-loop-p : goal.invariant-loop-p
invariant-loop-p l = l.reg ≡ filled l.n l.table l.numbers l.count l.fn.reg l.p
