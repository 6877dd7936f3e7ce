-- Fans of triangles at a vertex, and the bends that they make.

-- A bend over a vertex stays one where it turns farther.
-- A bend at a corner of a mesh, with a shared side on its last ray, grows over the triangle beyond the side, and turns the same way.
-- A fan at a vertex of a simple ring that turns by more than a half turn makes a bend there: at one that is not reflex, directions toward which
-- the ring is open turn by a half turn at most.
mod FanBends
pub use Rattle.funnels.proofs.Bends.FanBends.{wider_bend, grown_bend, grown_turning, bend_of_fan, not_reflex}
-- Signs that follow from the relation of four directions, over plain integers: ab is positive where b is left of a.
mod FanSigns
pub use Rattle.funnels.proofs.Bends.FanSigns.{Relation, negative_unless, right_of_third}
mod Fans
-- A triangle of a mesh at one of its corners, which sees its points in the angle there, and fans of such triangles, on either side: one begins
-- in a triangle, goes on over one, and has a last step in one.
-- A triangle of a mesh at one of its corners, seen from either side: its mirror image, how its sides turn, and which ways no ring neighbour goes.
mod TriangleFans
pub use Rattle.funnels.proofs.Bends.TriangleFans.{fan_begins, fan_begins_in, fan_goes_on, first_end_in, in_angle, last_end_in, last_step}
pub use Rattle.funnels.proofs.Bends.TriangleFans.{corner_back, corner_in, corner_in_ring, corner_turns, in_piece, neighbour_differs, not_inside}
pub use Rattle.funnels.proofs.Bends.TriangleFans.{not_swept, on_after, on_before, within_back}
-- The two neighbours of a vertex in a simple ring are on two rays from it.
-- Points on one ray from a vertex: what is left of the one is left of the other.
-- Directions in line with each other, seen from a vertex on either side: of two different lines only the vertex is on both, and what is to one side of a line is on one ray.
mod SameRays
pub use Rattle.funnels.proofs.Bends.SameRays.{two_rays, AreOnRay, on_ray_back, turning_from_ray, turning_to_ray, level_is_vertex, ray_ahead}
pub use Rattle.funnels.proofs.Bends.SameRays.{ray_behind, turning_differs, turning_differs_first, turning_straight}
-- Bends by the turning on one side of their vertex: the neighbours in the ring are not ahead of the one ray, nor behind the other.
mod BendTurnings
pub use Rattle.funnels.proofs.Bends.BendTurnings.{turnings_of_bend}
-- Turnings at a vertex, to the left or on the other side to the right, are such functions as fans are made of.
mod Turnings
pub use Rattle.funnels.proofs.Bends.Turnings.{not_ahead_of_itself, turning_along, turning_four, turning_not, turning_swap}
mod FanCones
-- A chain with bends goes on to one more point that its last point sees.
mod LongerChains
pub use Rattle.funnels.proofs.Bends.LongerChains.{chain_more}
