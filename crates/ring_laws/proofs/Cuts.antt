-- The cut law: a diagonal cuts a simple ring into two.

mod CutLaw
mod CutDirection
-- The cut law for a diagonal between any two vertices of a ring.
-- Cuts of a simple ring that runs counterclockwise, from its least vertex on: the pieces are simple and run counterclockwise too.
mod CounterclockwiseCuts
pub use Rattle.ring_laws.proofs.Cuts.CounterclockwiseCuts.{IsCounterclockwiseCut, cut_between, cut_from_first, cut_law, ear_cut_runs}
pub use Rattle.ring_laws.proofs.Cuts.CounterclockwiseCuts.{farthest_cut_runs, least_turn}
