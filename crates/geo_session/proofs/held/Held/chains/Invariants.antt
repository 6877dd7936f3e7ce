use Rattle.std.proofs.Common.{◌+◌, ◌*◌, ◌≤◌, length, map, vec_capacity}
use Rattle.geo_session.proofs.held.Held.chains.Given as goal
use Rattle.geo_session.specs.Span.{AreChains}

abbrev pub invariant-loop-r : goal.invariant-loop-r
invariant-loop-r g l = record {
  are : AreChains l.self.ring.corners l.points l.numbers (l.r * length l.numbers) (map (λ chain. chain.items) l.chains.items);
  room : length l.numbers * length l.numbers ≤ vec_capacity l.chains;
  steps : l.steps ≤ l.fn.steps + l.r * (length l.numbers * (4 * length l.self.ring.corners));
}
