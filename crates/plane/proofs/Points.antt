-- Triples of one rational point.

-- Rational points that are the same, and whole points among them.
mod Same
pub use Rattle.plane.proofs.Points.Same.{same_refl, same_sym, same_trans, same_whole, whole_is_point}
