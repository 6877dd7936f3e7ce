-- The theorem of simple rings: they wind once.

pub use Rattle.ring_laws.proofs.Simple.SimpleRings.{InTriangle, apart_regrouped, farthest_cut, first_runs, height, is_farthest_end}
pub use Rattle.ring_laws.proofs.Simple.SimpleRings.{left_turn_law, ring_regrouped, runs_round, second_runs, simple_ring_law, triangle_law, winds_once}
-- The cut of a ring from its first vertex v to the farthest vertex in the triangle there, and the two pieces.
-- The theorem of simple rings: a ring runs round once, as it turns at its least vertex.
mod SimpleRings
-- A simple ring runs one way or the other; turned round it is simple, runs the other way, and has the same chains with bends.
mod TwoWays
pub use Rattle.ring_laws.proofs.Simple.TwoWays.{bent_kept, kept_ring, taut_turned_iff, two_ways}
