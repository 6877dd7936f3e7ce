-- How often a ray crosses the edges of a list, and how that changes from point to point.

-- The law of crossing parity: along a segment that meets no edge of a closed list, the winding number stays.
mod ClosedLaw
pub use Rattle.rings.proofs.Crossings.ClosedLaw.{in_law, misses_swapped, winding_law, winding_law_crossed}
-- A segment and an edge in numbers: the heights of their ends over one another, and the sides of their lines.
-- How the signed crossings of one edge differ between the two ends of a segment.
mod EdgeLaw
pub use Rattle.rings.proofs.Crossings.EdgeLaw.{left_swapped, right_swapped}
-- The signed crossings of an edge from the two ends of a segment that crosses it, over plain integers. The names of the integers are those of `EdgeSigns`.
mod EdgeCrossed
-- Signs of the four determinants of a segment and an edge that do not meet, over plain integers. The edge's ends are beside the segment's line by u and w; the segment's lower and higher end are beside the edge's line by d and e. The edge's ends are f and g above the lower end, and i and j above the higher one, which is h above the lower.
mod EdgeSigns
-- The number of crossed edges is odd exactly if the winding number is.
mod Parity
pub use Rattle.rings.proofs.Crossings.Parity.{crossings_even, crossings_odd, other_parity, winding_odd}
mod SignedCrossing
-- What it says that the ray from a point to the right crosses an edge, upward or downward.
mod Crossings
pub use Rattle.rings.proofs.Crossings.Crossings.{CrossedDown, CrossedUp, CrossingCase, crossed_down_facts, crossed_down_from}
pub use Rattle.rings.proofs.Crossings.Crossings.{crossed_up_facts, crossed_up_from, crossing_cases, crossing_reversed, downward, uncrossed}
pub use Rattle.rings.proofs.Crossings.Crossings.{upward, crossings-append, crossings-backward, crossings-cons, winding-append}
pub use Rattle.rings.proofs.Crossings.Crossings.{winding-backward}
-- The signed crossings of an edge from the two ends of a segment that it does not meet, over plain integers. The names of the integers are those of `EdgeSigns`.
mod EdgeCases
