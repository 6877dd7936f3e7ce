-- Which points are in a ring, however it is read; the law of breakpoints.

-- A ring read from another vertex on: its edges, winding numbers and area are the same.
mod Rotated
pub use Rattle.rings.proofs.Inside.Rotated.{apart_rotated, area_rotated, closed_swapped, has_edge_rotated, in_rotated}
pub use Rattle.rings.proofs.Inside.Rotated.{length_rotated, on_some_rotated, on_some_swapped, swept_swapped, turn_rotated, vertex_rotated}
pub use Rattle.rings.proofs.Inside.Rotated.{winding_rotated, winding_swapped}
-- Points from which no edge is crossed: above all ends of the edges, or below all.
-- A point that is farthest in some direction is wound round by no closed list of edges.
mod ExtremePoints
pub use Rattle.rings.proofs.Inside.ExtremePoints.{below_abs, extreme_point, none_crossed_above}
-- What the laws of crossings say of the points in a ring.
-- The law of breakpoints: a segment lies in a ring exactly if the mediants of its neighbouring breakpoints do.
mod BreakpointLaw
pub use Rattle.rings.proofs.Inside.BreakpointLaw.{both_odd, in_from_odd, in_or_not, in_same, mediants_of_sees, not_in_from_even}
pub use Rattle.rings.proofs.Inside.BreakpointLaw.{on_some_or_not, sees_by_mediants, vertex_in}
mod SamePoint
-- Points in order on a segment, so close that each edge that meets the segment ends at two of them: its breakpoints.
mod Breakpoints
pub use Rattle.rings.proofs.Inside.Breakpoints.{AreBreakpoints}
pub use Rattle.rings.proofs.Inside.TurnedBends.{in_either, in_turned_iff, on_some_either, on_some_turned_iff, neighbours_turned_iff}
pub use Rattle.rings.proofs.Inside.TurnedBends.{reflex_turned_iff, sees_turned_iff}
-- A ring read the other way round from its first vertex: apart as before, with the opposite winding numbers.
mod Mirrored
pub use Rattle.rings.proofs.Inside.Mirrored.{apart_turned, turned_corner, winding_turned}
-- Sight, neighbours and reflex vertices of a ring that is read the other way round.
mod TurnedBends
-- A rational point that is farther in some direction than all vertices of a ring is not in it; and from each point there is such a point in each direction.
mod FarPoints
pub use Rattle.rings.proofs.Inside.FarPoints.{IsLessFar, not_in_extreme, outside}
