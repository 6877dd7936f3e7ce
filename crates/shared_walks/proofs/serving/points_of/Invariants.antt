use Rattle.std.proofs.Common.{◌≡◌, ◌≤◌, length, take, vec_capacity}
use Rattle.exact_plane.specs.Names.{named_points}
use Rattle.exact_plane.specs.Spot.{point_named}
use Rattle.shared_walks.proofs.serving.points_of.Given as goal

abbrev pub invariant-loop-name : goal.invariant-loop-name
invariant-loop-name l = record {
  put : l.points.items ≡ named_points (point_named l.board.ring.now.corners l.board.start l.board.goal) (take l.name-index l.names);
  room : length l.names ≤ vec_capacity l.points;
}
