-- Corner lists: a set of points has one at most.

mod SidesOfSets
-- The corners of a polygon, by their numbers: each is in it, and so are its sides; the least corner is its first point.
mod PolygonCorners
pub use Rattle.plane.proofs.CornerLists.PolygonCorners.{IsNext, not_second_next}
-- Two corner lists of one set have the same corners in the same order.
mod OneList
pub use Rattle.plane.proofs.CornerLists.OneList.{corners_are_one}
