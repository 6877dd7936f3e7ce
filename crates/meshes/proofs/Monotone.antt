-- Monotone pieces of a ring.

-- An edge that begins beside another one is above it, or below it.
mod Entering
pub use Rattle.meshes.proofs.Monotone.Entering.{enters_above, enters_below}
