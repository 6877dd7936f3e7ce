-- What a point of a ring sees: the parts of the edges, and all points on the ways to them.

-- The law of the view: what a point of a ring sees is what is in its triangles with the parts of the edges that it sees.
mod SeenInParts
pub use Rattle.rings.proofs.Views.SeenInParts.{view_law}
-- The parts of the edges that a point sees are the only ones: two lists of them have the same edges and ends.
mod OneView
pub use Rattle.rings.proofs.Views.OneView.{parts_are_one}
-- Rising numbers of which two lists have the same: the lists are one.
mod Rising
-- The parts of the edges that a point sees, where the ring is read the other way round.
mod TurnedParts
pub use Rattle.rings.proofs.Views.TurnedParts.{parts_either, view_turned}
