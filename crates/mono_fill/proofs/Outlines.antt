-- A monotone piece, read along both of its chains, and its vertices one after another by rank.

-- A monotone piece, read from its least vertex on along both of its chains.
-- A simple piece, read along both of its chains: its vertices by their places, and its edges.
-- The vertices of both chains, one after another by rank: the edges that run where the next one is.
mod Around
pub use Rattle.mono_fill.proofs.Outlines.Around.{IsInward, IsOutline, at, before, rank_at, sum_up_to, ends_of, IsMerge, merge_begins}
pub use Rattle.mono_fill.proofs.Outlines.Around.{merge_goes_on, merge_swapped, strictly_next}
-- The outline of a monotone piece that is read from its least vertex s to its greatest t and back.
mod Paths
-- A fillable piece, read from the place of its least rank on.
mod Readings
pub use Rattle.mono_fill.proofs.Outlines.Readings.{fillable_polygon, read_outline}
