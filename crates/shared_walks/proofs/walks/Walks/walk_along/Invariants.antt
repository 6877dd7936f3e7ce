use Rattle.std.proofs.Common.{◌+◌, ◌-◌, ◌*◌, ◌≤◌, length}
use Rattle.std.specs.List.{All}
use Rattle.meshes.specs.Sleeve.{diagonal_at}
use Rattle.shared_walks.proofs.walks.Walks.walk_along.Given as goal
use Rattle.shared_walks.specs.Fronts.{IsFront, GoesThrough}
use Rattle.shared_walks.specs.Several.{AreServed, FindsPaths, listed}

abbrev pub invariant-loop-i : goal.invariant-loop-i
invariant-loop-i g l = record {
  behind : l.front.funnel.at ≤ l.i;
  front : IsFront l.self.stops.now.ring.now.corners l.self.stops.now.start.now l.front;
  on : GoesThrough l.sleeve l.front;
  fronts : All (IsFront l.self.stops.now.ring.now.corners l.self.stops.now.start.now) l.fronts.items;
  finds : FindsPaths l.self.stops.now.ring.now.corners l.self.stops.now.start.now l.self.stops.now.points.now (length l.self.stops.now.ring.now.corners + 1)
      (listed l.fn.found.items) (l.fn.steps + 2 * l.front.funnel.at + 5) (listed l.found.items) (l.steps + length l.front.funnel.names.items);
  served : length l.sleeve.diagonals ≤ l.i → AreServed l.self.stops.now.mesh.now l.self.stops.now.tris.now
      (diagonal_at l.sleeve (length l.sleeve.diagonals - 1)).left (diagonal_at l.sleeve (length l.sleeve.diagonals - 1)).right
      (length l.self.stops.now.points.now) (listed l.found.items);
}
