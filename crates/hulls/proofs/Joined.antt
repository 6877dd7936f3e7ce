-- Points that a path joins over a point.

-- Chains with bends: one of one point, one read backward, and one without its first points.
-- Two chains with bends from points that see each other: the one read backward goes on to the other.
mod ChainsOver
pub use Rattle.hulls.proofs.Joined.ChainsOver.{GoesOnTo, back_at, back_bent, goes_on_beyond, goes_on_step}
pub use Rattle.hulls.proofs.Joined.ChainsOver.{over_bent, over_ends, rest_at, rest_bent, sees_back}
-- A chain with bends that goes on to another.
-- Two chains with bends from one point that have the same point at a place are one up to it.
mod LinkedChains
pub use Rattle.hulls.proofs.Joined.LinkedChains.{at_first, at_second, both_length, one_front}
-- Paths from one point that are joined over it are a path together; and where the path from a point on a chain goes first.
-- A point is on the path from a to b exactly if the paths from it to a and to b are joined over it.
-- A path read backward is the path back; and a point on a path is on the step with the number of the last step of the path to it.
mod OnPaths
pub use Rattle.hulls.proofs.Joined.OnPaths.{joined_of_on_path, on_path_iff_joined, on_path_of_joined, path_is_taut}
pub use Rattle.hulls.proofs.Joined.OnPaths.{on_step_to, path_steps}
