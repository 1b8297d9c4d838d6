-- `ponds_ranks::follow`: the word that is looked at leads where the first does. The measure is the steps left. Assumes
-- nothing.
use mathlib.Core.Path.{◌≡◌}
use Prim.Native.Nat.{ℕ, suc, ◌^◌, ◌<◌}
use lib.ListN.{length}
use Rattle.quad.specs.Numbers.{top_level}
use Rattle.ponds_sets.specs.Sets.{leading}
use Rattle.ponds_queues.specs.Words.{Ends, leads_to, steps_of}
use Rattle.ponds_ranks.proofs.follow.Given as goal

abbrev pub invariant-loop-at : goal.invariant-loop-at
invariant-loop-at l = (l.at < leading → l.at < length l.words) × ((end far : ℕ → ℕ) → Ends l.words end far → leads_to end l.at ≡ leads_to end l.word)

abbrev pub decreases-loop-at : goal.decreases-loop-at
decreases-loop-at l = steps_of l.words (suc (4 ^ top_level)) l.at
