-- The edges that the sweep line meets: where the vertex of an event is to them, and which they are after the event.

-- An edge of the ring that runs from before an event to it or on.
-- Where the vertex of an event is to two edges that the sweep line meets, one below the other.
mod Sides
pub use Rattle.sweep_tri.proofs.Fronts.Sides.{above_no_end, above_not_under, under_no_end, under_upper}
-- The edges of a ring at the vertex of an event: those that end there, and those that begin there.
mod Beside
pub use Rattle.sweep_tri.proofs.Fronts.Beside.{AreBeside, beside_below, beside_differ, beside_rank_differs, beside_swapped, event_vertex, front}
-- The edges that the sweep line meets, parted by a vertex: those that it is above, those that end there, and those that it is under.
-- How many of the edges that the sweep line meets end at the vertex of an event: as many as it has neighbours before it.
-- The edges below and above one gap: where the vertex of an event is to them, and whether they end there.
mod Parted
pub use Rattle.sweep_tri.proofs.Fronts.Parted.{IsParted, GoesOn, low_is_front, sorted, up_is_front}
-- The two edges that begin at a vertex turn to one side.
-- The edges that begin at the vertex of an event.
mod Beginning
pub use Rattle.sweep_tri.proofs.Fronts.Beginning.{not_straight, turns_left}
-- A list of edges in which some give way to others.
-- The edges that the sweep line meets after an event.
-- Before the first event and after the last one there are none.
-- An edge that the sweep line meets, and one that begins beside it.
mod Passed
pub use Rattle.sweep_tri.proofs.Fronts.Passed.{frontier_first, frontier_last}
-- The edges below and above some gaps, as one list.
mod Gaps
-- The edges of the gaps after one is put in, replaced, divided, taken out or joined with another.
mod Edits
-- Which edges of the gaps end at the vertex of an event, by its place among the gaps.
mod Kinds
-- What an event makes of the edges that the sweep line meets: two begin, and a gap is new or divides; one goes on in another; or two end, and a
-- gap closes or two are joined.
mod Events
pub use Rattle.sweep_tri.proofs.Fronts.Events.{IsEnd, IsMerge, IsNext, IsSplit, IsStart, closes, ends, follows_low, follows_up, merges}
pub use Rattle.sweep_tri.proofs.Fronts.Events.{splits, starts}
