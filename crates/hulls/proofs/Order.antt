-- The order of the points as seen from one: to the left of one another, where the paths begin on one side.

-- Two bends over one point, with one way to it: the ways on are to one side of that.
-- Three ways on from one point, with their next points ahead of a line: to be to the left goes on from one to the next.
-- Three ways on from one point, each to the left of the one before: the last is to the left of the first.
-- Ways on from one point, of which one is to the left of the other where they part.
mod Followed
pub use Rattle.hulls.proofs.Order.Followed.{same_first, AreAhead, left_of_alike, right_of_alike, HasFirst, IsLeftOf}
pub use Rattle.hulls.proofs.Order.Followed.{TurnsLeft, first_of_other}
-- Points on the ray from t through e, or to the right of it, or to the left of it: all are ahead of one line through t.
mod Starts
pub use Rattle.hulls.proofs.Order.Starts.{IsLeftOn, IsOnRay, IsRightOn, ahead_of_left, ahead_of_ray}
-- Points to the left of one another, seen from t, whose paths go first along a ray from t or to the right of it.
mod Ordered
pub use Rattle.hulls.proofs.Order.Ordered.{left_by_paths, left_of_paths, ordered, ordered_ahead, path_begins}
