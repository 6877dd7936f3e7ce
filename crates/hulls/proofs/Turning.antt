-- How paths from one point turn against each other.

-- Where two paths from one point change places, the second is to the other side of the first.
-- Of two paths from one point the second is not to both sides of the first.
mod NotBoth
pub use Rattle.hulls.proofs.Turning.NotBoth.{exchanged, exchanged_back, right_of_left, not_both, one_path}
-- Chains that part at a point: the points there, the bends, and which of three points on a line is between the others.
-- Where paths from one point part, they do not go on to the two ends of a segment through the point, unless it is on the path between
-- their ends.
-- Where two paths from one point go on along one ray, the one whose next point is nearer turns to a side there.
-- Of three free points the third is to the left of the second, seen from the first, or to the right.
mod OneWay
pub use Rattle.hulls.proofs.Turning.OneWay.{goes_on, one_between, one_way, part_to}
