-- What the call owes for any level, words and slice, as its contract says.
use Rattle.std.specs.Prelude.{List, ◌≡◌, ℕ, length}
use Rattle.answer.specs.Numbers.{Outcome}
use Rattle.distance.specs.Distance.{distance_of, distances_after}

-- for level n, the words T and a slice that holds `before`, the call gives r and leaves `after` in the slice
pub record Distances (n : ℕ) (T before : List ℕ) (r : Outcome) (after : List ℕ) : Type 0 where
  pub outcome : r ≡ distance_of n T (length before)
  pub slice : after ≡ distances_after n T before
