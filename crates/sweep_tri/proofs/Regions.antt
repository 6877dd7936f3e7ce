-- Regions between two chains, and the gaps that they make, after each event.

-- Paths of vertices with one more at the end, or without the last one: their items and steps.
mod Paths
pub use Rattle.sweep_tri.proofs.Regions.Paths.{before_last_grown, last_grown, length_grown}
-- A region and a gap seen from one of their sides, so that what holds at the one is shown at the other too.
mod Sides
pub use Rattle.sweep_tri.proofs.Regions.Sides.{IsNearer, IsShort, far_chain, far_front, near_chain, near_front}
-- What comes to an end at an event: the ranks of the vertices of a chain.
-- An open region whose near chain ends at the vertex of an event, after that.
mod Halves
-- An edge on the near side of another one, by where its ends are.
mod Edges
-- Two edges from one vertex, and the region between them.
mod Starts
-- A region without the last edge of its near chain.
mod Shortened
-- The later of the vertices where the edges at the ends of an open region begin: it is short of the other edge, so a diagonal leads on from there.
mod Latest
-- The parts of a gap: what is open where one of its edges ends, and what is closed.
mod Parts
pub use Rattle.sweep_tri.proofs.Regions.Parts.{closes, left_ends, left_far}
-- What the events make of gaps.
-- One region on both sides of a diagonal to the vertex of a split.
mod Events
pub use Rattle.sweep_tri.proofs.Regions.Events.{begins, ends, goes_on, merges, splits_above, splits_below, stays}
