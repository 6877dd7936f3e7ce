-- The sums that the triangles and the open regions have, and how an event changes them.

-- Sums along lists: cut in two at an item, read backward, and with other ends.
mod Along
-- Sums over lists of triangles and of gaps, after an edit.
-- After the last event: the triangles fit the ring.
-- The balance before the next event, from that before this one, by what the sums gain.
mod Steps
pub use Rattle.sweep_tri.proofs.Balance.Steps.{balanced_at_end, balanced_at_start}
-- The triangles that fill closed regions have the sums of these.
-- What an event does to the regions of a gap, by their sums.
-- Each event keeps the balance.
mod Edits
pub use Rattle.sweep_tri.proofs.Balance.Edits.{closed_round, filled-append, filled_sum, left_some, open_joined, AreFilledClosed}
pub use Rattle.sweep_tri.proofs.Balance.Edits.{balanced_begins, balanced_ends, balanced_goes_on, balanced_merges, balanced_splits}
-- Sums over the edges of a ring, each with a sign: where the signs agree, and where all are 1 or -1.
-- The signs of the edges of a ring before and after an event: just those of the edges that begin there are new.
mod EdgeSums
-- Twice the areas that edges sweep out round the origin: of triangles, and of a ring.
mod Area
