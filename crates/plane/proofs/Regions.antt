-- Closed convex regions by their corners, and what a cut along a line leaves of them.

-- Corners in convex position: one more, the first some of them, and the corner list that they make.
mod Corners
pub use Rattle.plane.proofs.Regions.Corners.{corner_within, corners_of_convex, new_corner, old_corner}
mod Sides
mod Weighing
-- Corners read from another one on: they are convex as before, and have the same region.
mod Turned
pub use Rattle.plane.proofs.Regions.Turned.{convex_turned, region_turned}
-- A point of a region is a mean of corners: in three corners or more, of the first and two neighbours.
mod Fans
pub use Rattle.plane.proofs.Regions.Fans.{four_beside, region_not_right}
-- Where a line through whole points meets another between two points of it, of which one is left of that and one right.
mod LineMeetings
pub use Rattle.plane.proofs.Regions.LineMeetings.{Ends, at_corner, at_meeting, meeting, not_parallel}
-- The corners of a polygon of which a line cuts some away.
mod CutCorners
-- Corners, meetings and points beside lines.
mod Beside
-- A polygon of which a line cuts some corners away.
mod CutPolygons
-- A segment of which a line cuts the last end away: what is left has the points that are not right of the line, no more and no less.
-- A region cut along a line, whole: its corners, from wherever they are read, and its points.
mod Cuts
pub use Rattle.plane.proofs.Regions.Cuts.{all_cut, corners_of_cut, cut_from, cut_of_polygon, cut_of_segment, cut_to, none_cut, one_block}
-- The square of the limit, by its corners.
mod Squares
pub use Rattle.plane.proofs.Regions.Squares.{square, square_corners}
