-- The lexicographic order of points.

-- Laws of the order of rational points.
mod Precedence
pub use Rattle.plane.proofs.Order.Precedence.{NotAfter, follows, mediant_follows, mediant_is_point, mediant_precedes, not_after_antisym}
pub use Rattle.plane.proofs.Order.Precedence.{not_after_facts, not_after_from, not_after_of_precedes, not_after_of_same, not_after_or_precedes}
pub use Rattle.plane.proofs.Order.Precedence.{not_after_trans, precedence, precedes, precedes_asym, precedes_differs, same}
-- Laws of the order of whole points.
mod Order
pub use Rattle.plane.proofs.Order.Order.{Comparison, after, before, before_asym, before_differs, before_irrefl, before_of_precedes, before_or_not}
pub use Rattle.plane.proofs.Order.Order.{before_trans, between_equal, between_reversed, compare_points, equal, not_after_last, not_before_first}
pub use Rattle.plane.proofs.Order.Order.{point_or_other, same_coordinates, x_at_most, y_at_most}
mod Rises
pub use Rattle.plane.proofs.Order.Rises.{by_rises, rise, rises, run, written_rise, written_run}
