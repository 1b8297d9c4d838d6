-- What the parts of a step ask of a table and a place that passed the tests before them: inner facts, no part of what a
-- step means.
use Rattle.std.specs.Prelude.{List, ℕ, ◌+◌, ◌^◌, ◌≤◌, ◌<◌}
use Rattle.table.specs.Table.{nodes}
use Rattle.table.specs.Rules.{Sized}
use Rattle.walk.specs.declared.Place.{Place}

-- the place is none of the bad ones, on a sheet of good level and a table of good length
pub record Good (T : List ℕ) (p : Place) : Type 0 where
  pub sized : Sized p.n T
  pub deep : p.level ≤ p.n
  pub here : p.node < nodes T
  pub rows : p.y ≤ 2 ^ p.n
  pub room : p.left + 2 ^ p.level ≤ 2 ^ p.n
