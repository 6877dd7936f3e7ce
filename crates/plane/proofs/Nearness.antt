-- Points near a point, on the way to another.

-- Near a rational point: on the way from it to another point, what is apart from it is left behind.
-- Near a point, in two directions at once: what is apart from it is left behind, and turns keep their sides.
mod NearPairs
unfoldable pub use Rattle.plane.proofs.Nearness.NearPairs.{combination_toward}
pub use Rattle.plane.proofs.Nearness.NearPairs.{Eventually, apart_between, apart_eventually, left_eventually, left_toward, negative_at}
pub use Rattle.plane.proofs.Nearness.NearPairs.{no_meet_across, outweighs, positive_at, right_toward, side_toward, toward, toward_differs}
pub use Rattle.plane.proofs.Nearness.NearPairs.{toward_is_point, toward_on, turn_toward}
