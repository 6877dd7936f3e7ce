use Rattle.std.proofs.Common.{ℕ, ◌+◌, ◌*◌, ◌<◌, ◌≤◌, length, vec_capacity}
use Rattle.plane.specs.Point.{whole}
use Rattle.rings.specs.Chain.{point_at}
use Rattle.rings.specs.Inside.{IsIn}
use Rattle.geo_session.proofs.held.Held.located.Given as goal
use Rattle.geo_session.specs.Span.{AreHeld}

abbrev pub invariant-loop-k : goal.invariant-loop-k
invariant-loop-k g l = record {
  held : AreHeld l.self.ring.corners l.self.tris l.points l.k l.tris.items;
  inside : (j : ℕ) → j < l.k → IsIn l.self.ring.corners (whole (point_at l.points j));
  room : length l.points ≤ vec_capacity l.tris;
  steps : l.steps ≤ l.fn.steps + l.k * (3 * length l.self.ring.corners);
}
