-- A triangulation without one of its ears.

mod LeafTaken
-- The numbers of a list of triangles and of the list without one of them.
mod Without
pub use Rattle.meshes.proofs.Ears.Without.{is_rest}
mod EarCut
mod EarOff
-- The law of ears, for a piece that is read from any vertex.
mod EarTurned
pub use Rattle.meshes.proofs.Ears.EarTurned.{ear_law, edge_ends}
