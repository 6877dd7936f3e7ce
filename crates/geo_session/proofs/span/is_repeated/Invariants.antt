use Rattle.std.proofs.Common.{◌≢◌, ℕ, ◌+◌, ◌<◌, ◌≤◌}
use Rattle.geo_session.proofs.span.is_repeated.Given as goal
use Rattle.rings.specs.Chain.{point_at}

abbrev pub invariant-loop-j : goal.invariant-loop-j
invariant-loop-j g l = record {
  none : (k : ℕ) → k < l.j → point_at l.points k ≢ point_at l.points l.i;
  steps : l.steps ≤ l.fn.steps + l.j;
}
