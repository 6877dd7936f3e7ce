-- What the points of a funnel see, and the chains that bend round them.

-- What the points of a funnel see: beyond the diagonal what is in their windows, in the triangle behind it too, and so the points of the next
-- funnel what is in their windows on the two other sides of the triangle.
mod WindowSight
pub use Rattle.funnels.proofs.Chains.WindowSight.{sees_reached}
-- The chain from a source over the apex of a funnel goes on to each of its points, and to what is seen from there.
mod WaysBefore
pub use Rattle.funnels.proofs.Chains.WaysBefore.{chain_on, chain_to}
-- A walk begins in a triangle of a mesh: its points see each other and its sides, and with no points before the apex nothing bends.
-- A walk begins in a triangle with a source s: the open funnel of s at a side of the triangle that is shared.
mod FirstFunnels
pub use Rattle.funnels.proofs.Chains.FirstFunnels.{bent_from_apex, one_bent, source_in, start_at_left, start_at_right, start_between}
mod BentLeft
-- At an end of a shared side: a bend to the other end goes on to each point of the triangle beyond, and turns the same way; and a fan round to the side makes a bend to a point past it.
-- At the corner of a triangle beyond the diagonal fans begin with the way back to the point of the funnel that it is reached from.
mod Ends
pub use Rattle.funnels.proofs.Chains.Ends.{corner_differs}
mod BentRight
mod ApexTurns
-- The way to a point beyond the diagonal bends at the point of the funnel from which it is reached, be that the apex or not.
-- The step from an open funnel to the next, over one of the two sides from the corner beyond the diagonal: the point of the funnel that the corner is reached from sees it, and the way there bends at that point.
mod ReachedBends
pub use Rattle.funnels.proofs.Chains.ReachedBends.{reached_bends, step_left, step_right}
mod LastPoints
