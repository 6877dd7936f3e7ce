use Rattle.std.proofs.Common.{◌≡◌, ◌++◌, take, vec_capacity}
use Rattle.exact_plane.specs.Spot.{point_named}
use Rattle.exact_plane.specs.Names.{named_points}
use Rattle.geo_session.proofs.paths.put_points.Given as goal

abbrev pub invariant-loop-name : goal.invariant-loop-name
invariant-loop-name l = record {
  put : l.points.items ≡ l.fn.points.items
      ++ named_points (point_named l.board.ring.now.corners l.board.start l.board.goal) (take l.name-index l.names);
  same_room : vec_capacity l.points ≡ vec_capacity l.fn.points;
}
