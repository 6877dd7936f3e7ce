-- A ring read the other way round.

-- A ring read the other way round: its edges are those of the ring, the last one first, each read backward.
mod Turned
pub use Rattle.rings.proofs.Turned.Turned.{between_turned, edges_of-turned_round, length-turned_round, turned_begin, turned_end}
pub use Rattle.rings.proofs.Turned.Turned.{turned_from, turned_round-turned_round, turned_to, vertex-turned_round, vertex-turned_round-zero}
pub use Rattle.rings.proofs.Turned.Turned.{doubled_area-turned_round, swept-append, simple_turned}
