-- Closed regions as pieces of a polygon.

-- Edges of chains that rise in lexicographic order: those of one chain, and those of two, share no more than a common end.
mod ChainEdges
-- A ring of two chains that rise from its least vertex to its greatest, one below the other: it is simple and runs counterclockwise.
mod ChainRings
-- The boundary of a closed region by its places: along the lower chain, and back along the upper one.
-- A closed region is a piece of the polygon: simple, counterclockwise and monotone.
mod ClosedRegions
pub use Rattle.sweep_tri.proofs.Pieces.ClosedRegions.{boundary_counterclockwise, boundary_long, boundary_monotone, boundary_numbers}
pub use Rattle.sweep_tri.proofs.Pieces.ClosedRegions.{boundary_polygon, boundary_simple}
