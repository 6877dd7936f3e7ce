-- Diagonals of a ring, and the cut rule.

-- The diagonal of a cut ring, and points in rings that wind up to once.
-- Diagonals of a ring: inside it where both pieces run counterclockwise, and the same from another vertex on or the other way round.
mod Diagonals
pub use Rattle.ring_laws.proofs.Diagonals.Diagonals.{diagonal_backward, diagonal_rotated, ends_differ, in_if_wound, inner_off, some_back}
pub use Rattle.ring_laws.proofs.Diagonals.Diagonals.{some_there, wound}
-- Beside a diagonal: the winding numbers of the two pieces, one to its left and one to its right.
mod BesideDiagonal
pub use Rattle.ring_laws.proofs.Diagonals.BesideDiagonal.{same_direction}
-- The cut rule at a least vertex: the segment that it chooses is a diagonal of the ring.
-- The cut rule at a least vertex with a right turn, from the ring read the other way round.
mod CutRule
pub use Rattle.ring_laws.proofs.Diagonals.CutRule.{base_diagonal, farthest_diagonal}
-- The vertices in the triangle at a corner of a ring, by their numbers and as points.
mod CornerNumbers
pub use Rattle.ring_laws.proofs.Diagonals.CornerNumbers.{AreBoth}
-- The cut rule at any vertex of a ring: the cut at its least vertex is a diagonal.
mod CutAtVertex
pub use Rattle.ring_laws.proofs.Diagonals.CutAtVertex.{cut_is_diagonal_at, some_cut}
