-- A corner of a triangle: the neighbours and the ways within its angle.

-- More signs that follow from the relation of four directions, over plain integers: ab is positive where b is left of a.
mod TurningSigns
pub use Rattle.funnels.proofs.Corners.TurningSigns.{left_of_line, left_of_second, not_right_of_first}
-- The edges of a piece as edges of its points, and a vertex on a side of a triangle.
-- The edges of a ring by the numbers of their ends, and the neighbours of a vertex on one ray.
-- The turn of a ring at a vertex from which one of its edges is known.
mod RingTurns
pub use Rattle.funnels.proofs.Corners.RingTurns.{end_of_its_side, IsRingStep, step_turn}
-- The corners of a triangle of a mesh beside one of them.
-- A vertex of the ring in a closed triangle of a mesh is a corner of it.
mod CornerPoints
pub use Rattle.funnels.proofs.Corners.CornerPoints.{corner_after, corner_before, at_corner, corner_of, side_corners}
-- Within the angle of a triangle of a mesh at a corner: a ring neighbour of the corner there is the end of a side, along which the ring goes
-- as the triangle does, and so there is no bend between two rays.
-- A point that a corner of a triangle of a mesh sees across the opposite side is within the angle of the triangle there.
mod NoBendInTriangle
pub use Rattle.funnels.proofs.Corners.NoBendInTriangle.{neighbour_within, no_bend, side_at_corner, within_of_seen, within_on_ray}
