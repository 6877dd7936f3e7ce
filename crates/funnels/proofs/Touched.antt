-- The vertices that a chain along a walk touches.

-- A vertex of the ring strictly between two points of a walk that see each other is an end of a side that the walk crosses between them.
mod TouchedCorners
-- Whether a point is ahead on the way to the next point of a chain; parts of a segment between whole points.
-- A chain with bends in a simple ring comes to no point twice, so a search finds no vertex twice.
mod FoundOnce
pub use Rattle.funnels.proofs.Touched.FoundOnce.{ahead_cases, only_point, IsFoundOnce, found_few, once_begins, once_looked, one_step}
-- A search for the vertices that a chain along a walk touches looks at an end of a side that the walk crosses.
mod LookedAt
pub use Rattle.funnels.proofs.Touched.LookedAt.{IsEntered, IsNow, looked_at}
-- A chain with bends along a walk enters the walk's triangles in order: from which place on the sides matter to each of its steps.
mod Entered
pub use Rattle.funnels.proofs.Touched.Entered.{entering, number_below}
-- A search for the vertices that a chain along a walk touches: how it begins, how it goes on over a side, and what it has found at the end.
mod Searches
pub use Rattle.funnels.proofs.Touched.Searches.{found_all, found_rest, search_begins, search_goes_on}
