-- The stack while the chains are merged, and the triangles so far.

-- The stack of a filling while the chains are merged, and the triangles so far.
-- The stack goes on to the next vertex of its own chain.
mod GoesOn
pub use Rattle.mono_fill.proofs.Stages.GoesOn.{IsStage, stage_goes_on}
-- The stack goes over to the next vertex of the other chain, and its fan to that vertex; at the end to the greatest one.
mod Crosses
pub use Rattle.mono_fill.proofs.Stages.Crosses.{all_cancel, all_triangles, stage_crosses}
