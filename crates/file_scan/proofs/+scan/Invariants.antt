-- `file_scan::scan`: what is left of the four blocks ends where all of them do. The measure is the level.
use Rattle.std.proofs.Common.{◌≡◌, ◌-◌, ◌≤◌, length}
use Rattle.file.specs.File.{four_at, block_at}
use Rattle.file.specs.Reading.{place_after, rest_after}
use Rattle.file_scan.proofs.+scan.Given as goal

abbrev pub decreases-scan : goal.decreases-scan
decreases-scan l = l.level

abbrev pub invariant-loop-q : goal.invariant-loop-q
invariant-loop-q l =
    (l.next ≤ length l.file.now) × (rest_after (block_at l.file.now l.level) (4 - l.q) l.q l.next l.kinds ≡ place_after (four_at (block_at l.file.now l.level) l.at))
