use Rattle.std.proofs.Common.{◌≡◌, ◌≤◌, length, map, take, vec_capacity}
use Rattle.rings.specs.Ring.{vertex}
use Rattle.geo_session.proofs.pairs.corners_of.Given as goal

abbrev pub invariant-loop-name : goal.invariant-loop-name
invariant-loop-name l = record {
  put : l.points.items ≡ map (vertex l.ring.corners) (take l.name-index l.names);
  room : length l.names ≤ vec_capacity l.points;
}
