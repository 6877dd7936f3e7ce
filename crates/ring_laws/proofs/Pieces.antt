-- A ring and the two pieces of it: the other step.

-- A ring cut along a diagonal: its edges, winding numbers and area are those of the two pieces together.
mod Pieces
pub use Rattle.ring_laws.proofs.Pieces.Pieces.{apart_first, apart_second, distinct_cut, edges_of_first, has_edge_of_first, on_some_cut, winding_cut}
mod PieceConstants
-- A ring cut by a diagonal into two pieces: where each piece winds round each point not at all or once, so does the ring.
-- A ring that is cut into two pieces runs counterclockwise where both pieces do.
mod CutStep
pub use Rattle.ring_laws.proofs.Pieces.CutStep.{cut_counterclockwise}
-- The two pieces of a ring that is cut from v to z meet at v and z alone, apart from the diagonal.
mod PiecesMeet
pub use Rattle.ring_laws.proofs.Pieces.PiecesMeet.{has_edge_back, has_edge_there, meet_at_cut, off_first, off_second, on_back}
mod FarTargets
-- From beside the diagonal to the first edge of the ring: what the winding numbers of the pieces are there.
-- Neither of two pieces beside a diagonal winds round the chain of the other.
mod UnwoundChains
mod BesideChains
-- Two chains between the ends of a diagonal, which meet each other and the diagonal only there: each of them is on one side of the piece that the other makes with the diagonal.
mod TwoChains
