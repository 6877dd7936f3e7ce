-- Gates: from which place of a funnel a point past the diagonal is reached.

-- Points past a diagonal: beyond it, or on it.
-- The points of a triangle are past each of its sides, walked over from the other side of it.
mod PastSides
pub use Rattle.hulls.proofs.Gates.PastSides.{IsPastDiagonal, past_of_triangle}
mod PartedByEdges
-- Two points past a diagonal, reached from two places of its funnel: the places from the one to the other are right of the way between them.
-- Each point past a diagonal is reached from one place of its funnel.
mod OneGate
pub use Rattle.hulls.proofs.Gates.OneGate.{gates_beside, one_gate, some_gate}
-- A point of a side beyond a diagonal is reached from one point in two funnels: of the side from m to the right end in that of m and the points from
-- place h on, and of the side from the left end to m in that of the points to place h, and m.
mod NextGates
pub use Rattle.hulls.proofs.Gates.NextGates.{next_gate_left, next_gate_right}
