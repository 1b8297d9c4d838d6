-- `table_seen::seen`: what the sons from q on add to `all` is what the fork has. The measure is the level.
use mathlib.Core.Path.{◌≡◌}
use Rattle.table_sound.specs.Seen.{added, seen_of}
use Rattle.table_sound.proofs.SeenLaws.{sons_seen, most}
use Prim.Native.Nat.{◌+◌, ◌-◌, ◌*◌, ◌<◌, ◌≤◌}
use Rattle.table_seen.proofs.+seen.Given as goal

abbrev pub decreases-seen : goal.decreases-seen
decreases-seen l = l.level

abbrev pub invariant-loop-q : goal.invariant-loop-q
invariant-loop-q l = record {
  sons : added (sons_seen l.table (l.level - 1) l.p) (4 - l.q) l.q l.all ≡ seen_of l.table l.level l.p;
  some : 0 < l.all;
  few : l.all ≤ 1 + l.q * most;
}
