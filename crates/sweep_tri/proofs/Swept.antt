-- The state of a sweep before the next event, from that before this one, by the kind of the event.

-- What holds at an event.
-- Before the first event, and after the last one.
-- What the search and the regions of a gap need of the state.
mod AtEvent
pub use Rattle.sweep_tri.proofs.Swept.AtEvent.{IsAtEvent, both_turn, event_below, event_rank, swept_at_end, swept_at_start, gap_high_region}
pub use Rattle.sweep_tri.proofs.Swept.AtEvent.{gap_low_region, low_region, swept_sorted}
-- The gaps of a list after an edit.
-- What is kept at an event: gaps neither of whose edges ends there are open after it, and triangles that fit closed regions are triangles of
-- the ring.
-- The edges of the gaps that an event leaves.
mod Kept
-- Two edges begin at the event: a gap starts between them, or they begin in a gap, and split it.
mod Begins
pub use Rattle.sweep_tri.proofs.Swept.Begins.{split_has_gap, swept_splits, swept_starts}
-- One edge goes on in another: the edge below a gap, or the one above it.
-- Two edges end at the event: both edges of a gap, or those between two gaps, so that they are one.
mod Follows
pub use Rattle.sweep_tri.proofs.Swept.Follows.{event_low, event_up, follow_closes, swept_follows, end_closes, end_has_gap}
pub use Rattle.sweep_tri.proofs.Swept.Follows.{merge_closes_above, merge_closes_below, merge_some, swept_ends, swept_merges}
