-- Funnels from an apex to a diagonal, as two convex chains, and how they go on.

-- The line of an edge at a point off a diagonal does not go through both ends of the diagonal.
-- How far four points are from a line, points on one line, and a point on the line of a diagonal: on which sides of the ways from it to the
-- ends the points beyond the diagonal are.
-- The way from a point to one beyond a diagonal, between the lines of two edges at the point, crosses the diagonal between them.
mod CrossingDiagonal
pub use Rattle.funnels.proofs.Funnels.CrossingDiagonal.{IsEnd, in_proportion, straight_on_line, crossing_in_window}
-- Points of a funnel without height: they are between the ends of the diagonal, but for an apex that sees nothing beyond.
-- An apex without height is on the diagonal, or nothing beyond the diagonal is in its window.
mod FlatFunnels
pub use Rattle.funnels.proofs.Funnels.FlatFunnels.{IsFlat, IsOnDiagonal, flat_left, flat_off_apex, flat_right, on_at_first, on_at_last}
pub use Rattle.funnels.proofs.Funnels.FlatFunnels.{turn_left, turn_right, flat_apex, left_of_apex, right_of_apex}
-- The first funnels: of a source s with r not right of the way from l to s, at the diagonal from l to r.
mod ShortFunnels
pub use Rattle.funnels.proofs.Funnels.ShortFunnels.{funnel_between, funnel_from_left, funnel_from_right}
-- What holds of three points, as a turn, holds of the same points by other names.
mod ThreePoints
pub use Rattle.funnels.proofs.Funnels.ThreePoints.{by_points, turns_left, turns_right}
-- The signs behind the test of the edges of a funnel: three points, and one beyond a line that is not above them.
mod TestSigns
mod LineCrossed
-- The two edges at the apex of a funnel: no point beyond the diagonal is to the left of the left one and to the right of the right one.
-- Which edges of a funnel the way to a point beyond the diagonal passes: those from the left end to one place, and no others.
-- On which side of the way over a place of a funnel a point is that is reached from there, where the place is not the apex.
mod PassedEdges
pub use Rattle.funnels.proofs.Funnels.PassedEdges.{not_passed_from, passed_from, passed_of, passed_to, left_of_way}
pub use Rattle.funnels.proofs.Funnels.PassedEdges.{right_of_way}
-- On the side from an end of the diagonal to m the window of an old point in the next funnel is within its old window.
-- The two next funnels, of the diagonals from a point beyond to the right end and from the left end to it: the point, and the points from the
-- place that it is reached from, or those to that place.
mod NextFunnels
pub use Rattle.funnels.proofs.Funnels.NextFunnels.{old_window_left, old_window_right, funnel_left, funnel_right}
-- The edges of the next funnel by their numbers: old ones of the last funnel, and a new one to m.
mod NextEdges
pub use Rattle.funnels.proofs.Funnels.NextEdges.{left_place, new_edge_left, new_edge_right, old_edge_left, old_edge_right}
-- How high the points of a funnel are over the diagonal: they fall along each chain from the apex, and none is beyond.
mod Heights
pub use Rattle.funnels.proofs.Funnels.Heights.{level, lower, lower_left, lower_right, not_negative, reaches_left, reaches_right}
-- The way passes an edge of a funnel as the side of its ends tells on which the goal is, and passes the same edges of a part of the
-- funnel.
mod EdgeTests
pub use Rattle.funnels.proofs.Funnels.EdgeTests.{passed_left, passed_right, passed_same}
-- The points of the next funnel by their places: m and then some last points, or some first points and then m; and what holds of three of them.
mod NextPoints
pub use Rattle.funnels.proofs.Funnels.NextPoints.{left_new_at, left_old_at, left_on_left, left_on_right, next_left_length, next_left_old}
pub use Rattle.funnels.proofs.Funnels.NextPoints.{next_right_last, next_right_length, next_right_old, right_new_at, right_old_at}
pub use Rattle.funnels.proofs.Funnels.NextPoints.{right_on_left, right_on_right}
-- The way to a point beyond the diagonal, from the place of the funnel that it is reached from, goes over the diagonal.
mod NewEdge
pub use Rattle.funnels.proofs.Funnels.NewEdge.{reaches_new}
-- The edges of a funnel at its places, and the window of the place from which a point is reached.
mod FunnelEdges
pub use Rattle.funnels.proofs.Funnels.FunnelEdges.{edge_after, edge_before, in_window_of, window_of_reached}
