use Rattle.std.proofs.Common.{◌+◌, ◌*◌, ◌≤◌, length}
use Rattle.geo_session.proofs.span.firsts.Given as goal
use Rattle.geo_session.specs.Span.{AreFirstsBelow}

abbrev pub invariant-loop-i : goal.invariant-loop-i
invariant-loop-i g l = record {
  are : AreFirstsBelow l.points l.i l.numbers.items;
  few : length l.numbers.items ≤ l.i;
  steps : l.steps ≤ l.fn.steps + l.i * length l.points;
}
