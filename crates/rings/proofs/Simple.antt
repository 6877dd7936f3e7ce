-- Simple rings, and the least clash of others.

-- A simple ring is one with different vertices whose edges share no more than their ends.
mod SimpleIsApart
pub use Rattle.rings.proofs.Simple.SimpleIsApart.{apart_of_simple, proper_edges, same_or_not, simple_of_apart}
-- There is one least clash at most, and none in a simple ring.
mod LeastClash
pub use Rattle.rings.proofs.Simple.LeastClash.{least_clash_is_one, no_least_clash}
