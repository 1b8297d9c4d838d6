-- `cases_pictures::walks::count`: no more is counted than steps are taken.
use Rattle.std.proofs.Common.{◌≤◌}
use Rattle.cases_pictures.proofs.walks.count.Given as goal

abbrev pub invariant-loop-step : goal.invariant-loop-step
invariant-loop-step l = record {
  moved : l.counts.moved ≤ l._step;
  runs : l.counts.runs ≤ l._step;
  rows : l.counts.rows ≤ l._step;
}
