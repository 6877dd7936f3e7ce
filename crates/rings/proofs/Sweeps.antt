-- A certificate that a list of edges is simple: what a sweep over the plane has seen.

-- Edges between points in lexicographic order. Where for each two consecutive points the edges over both are a list in which each is below the next, two edges share no more than a common end.
mod Slabs
-- That vertices are the events is a proposition: it holds in one way at most, so a struct can keep it.
mod OneWay
pub use Rattle.rings.proofs.Sweeps.OneWay.{events_are_one}
pub use Rattle.rings.proofs.Sweeps.Neighbours.{replaced}
-- A ring is simple where a sweep has passed all its events.
mod Swept
pub use Rattle.rings.proofs.Sweeps.Swept.{at_rank, empty_status, simple_of_swept}
-- A chord from s to t with a point x between them, and the line ab on one side of all three.
mod Chords
pub use Rattle.rings.proofs.Sweeps.Chords.{same_of, way}
mod Neighbours
mod Stacks
-- Points in lexicographic order, by their ranks, and where a point of an edge comes among them.
mod Ascending
pub use Rattle.rings.proofs.Sweeps.Ascending.{ascends, at_one_place, not_after_last, not_before_first, precedes_later, precedes_whole}
-- Vectors that do not point backward in the lexicographic order: a sum of them with weights that are not negative is 0 only where each part is.
mod ForwardSums
pub use Rattle.rings.proofs.Sweeps.ForwardSums.{Part, none_gains}
-- The events of a ring: the vertices beside a vertex, and the ends of an edge by their ranks.
mod Events
pub use Rattle.rings.proofs.Sweeps.Events.{edge_is, ends_are, ends_below, event_of, forward, next_below, next_differs, next_of_previous}
pub use Rattle.rings.proofs.Sweeps.Events.{previous_below, previous_of_next, rank_below, ranks_are, vertex_after}
-- One edge below another: where both run, what is on the lower edge or below it is below the upper one, but for a common end.
mod StaysBelow
pub use Rattle.rings.proofs.Sweeps.StaysBelow.{Spans, side, stays_below}
-- The status before and after an event: what the edges at its vertex do, and no other.
mod Passing
pub use Rattle.rings.proofs.Sweeps.Passing.{both_enter, both_leave, u_follows, v_follows}
