use Rattle.std.proofs.Common.{◌+◌, ◌*◌, ◌≤◌, length, vec_capacity}
use Rattle.geo_text.specs.Version.{by_version}
use Rattle.geo_session.specs.Span.{AreSidesTold}
use Rattle.geo_session.proofs.held.Held.told_sides.Given as goal

abbrev pub invariant-loop-pair : goal.invariant-loop-pair
invariant-loop-pair g l = record {
  are : AreSidesTold l.version l.self.ring.corners l.span l.pairs l.pair-index l.told.items;
  room : length l.pairs ≤ vec_capacity l.told;
  steps : l.steps ≤ l.fn.steps + l.pair-index * (by_version l.version 0 20 * length l.self.ring.corners);
}
