-- Two chains with bends between the same points are equal.

-- The front of a chain with bends is one.
mod SubChains
pub use Rattle.funnels.proofs.OneChain.SubChains.{front_and_last, front_at, front_bent, front_length}
-- A bend read backward, and one where a point beside it is another one on the same ray.
-- The front of a chain with bends, and a chain with bends whose last step is shorter.
mod SameChains
pub use Rattle.funnels.proofs.OneChain.SameChains.{bend_back, bend_from_ray, bend_on_ray, before_last, front, last_of, shorter_step}
mod ComeTogether
pub use Rattle.funnels.proofs.OneChain.Paths.{no_closed_chain, one_bent_chain, bent_is_path, one_before, one_taut_chain, taut_iff_bent}
-- In a simple ring a taut chain is the path between its ends, and a chain with bends is taut.
mod Paths
