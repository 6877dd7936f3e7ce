-- The vertices of a ring in lexicographic order, by their ranks.
pub mod RankOrder
-- A closed region is a simple piece that runs counterclockwise and is monotone.
pub mod Pieces
-- The sums that the triangles and the open regions have, and how an event changes them.
pub mod Balance
-- Regions between two chains, and the gaps that they make, after each event.
pub mod Regions
-- The edges that the sweep line meets: where the vertex of an event is to them, and which they are after the event.
pub mod Fronts
-- The state of a sweep after each event.
pub mod Swept
-- The place of a vertex among the gaps, by halving.
pub mod Search
-- The gaps in their slots, by the numbers of those that are open.
pub mod Slots
-- The regions that an event closes, and those that stay open: what is known of each, and how they are filled.
pub mod Closing
-- How many entries the gaps have in all, after each event.
pub mod Work
-- The steps that the events take, by the entries of the gaps before and after them.
-- What the turn of three corners says of a vertex and an edge.
-- An event that the sweep passes: what it needs of the state, and what it takes.
pub mod Passes
-- After a half turn of the plane a simple ring is simple, and the triangles that fit it are the same; the lexicographic order is the other one.
pub mod HalfTurns
