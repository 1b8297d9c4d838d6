-- `ponds_register::clear`: the entries before i are written.
use Prim.Native.Nat.{◌*◌, ◌≤◌}
use mathlib.Core.Path.{◌≡◌}
use lib.ListN.{length, replicate}
use Rattle.base.specs.Tab.{overlay}
use Rattle.ponds.specs.Entries.{words_of}
use Rattle.ponds_entry.specs.Gathered.{empty_pond}
use Rattle.ponds_register.proofs.clear.Given as goal

abbrev pub invariant-loop-i : goal.invariant-loop-i
invariant-loop-i l = (5 * l.count ≤ length l.initial.reg) × (l.reg ≡ overlay (words_of (replicate l.i empty_pond)) l.initial.reg)
