-- Points on a segment, and segments beside lines.

-- First laws of segments: their ends, their two directions, other triples of the same points, the line through them.
mod Segments
pub use Rattle.plane.proofs.Segments.Segments.{combination_is_straight, meet_reversed_second, on_first_end, on_is_straight, on_last_end, on_reversed}
pub use Rattle.plane.proofs.Segments.Segments.{on_same_point}
-- A whole point is on a segment exactly if it is on the line through the ends and comes between them.
mod OnSegment
pub use Rattle.plane.proofs.Segments.OnSegment.{on_segment_from, on_segment_is}
-- A rational point is on a segment exactly if it is on the line through the ends and comes between them.
mod OnByOrder
pub use Rattle.plane.proofs.Segments.OnByOrder.{not_after_both, not_before_both, on_from_order, on_not_after, on_not_before, straight_on}
-- Laws of intervals and boxes that meet.
mod Boxes
pub use Rattle.plane.proofs.Segments.Boxes.{IsInInterval, boxes_meet_at, within_y}
-- Two segments on one line meet where their boxes do: an end of one is on the other.
mod OneLine
pub use Rattle.plane.proofs.Segments.OneLine.{OnOneLine, one_line_meet}
-- Points on a segment as combinations of its ends: segments within segments, and points that are an end.
mod Combinations
pub use Rattle.plane.proofs.Segments.Combinations.{combination_of_same, first_end_by, not_positive_between, on_nested, same_without_first}
pub use Rattle.plane.proofs.Segments.Combinations.{same_without_last}
-- How far a rational point is along a segment.
mod Lengthwise
pub use Rattle.plane.proofs.Segments.Lengthwise.{along, along_from_square, along_is_linear, along_itself, combination_along, same_from_square, square}
pub use Rattle.plane.proofs.Segments.Lengthwise.{square_not_negative, square_swapped, weighed_W, weighed_X_on_line, weighed_Y_on_line}
-- The order of the points along a segment: which of them is nearer to the first end.
-- Two points of a segment: the one is between the first end and the other, or between the other and the last end.
mod Between
pub use Rattle.plane.proofs.Segments.Between.{later_between, nearer_each, nearer_on, on_antisym, on_one_side, on_total}
-- The middle of the segment between two whole points.
mod Middle
pub use Rattle.plane.proofs.Segments.Middle.{middle, middle_first, middle_is_point, middle_last, middle_on, middle_within}
-- Two segments on one line: round each common point there are two ends of theirs that are common too.
mod Overlaps
pub use Rattle.plane.proofs.Segments.Overlaps.{around_of_line, leaves}
-- What two segments have in common: one point where they are not parallel, and otherwise what lies between ends of theirs.
mod SharedParts
pub use Rattle.plane.proofs.Segments.SharedParts.{as_far, first_on_line, last_on_line, one_meeting}
-- Two points on one line with a third, to one side of another line through that: they are on one ray.
mod Rays
pub use Rattle.plane.proofs.Segments.Rays.{on_one_ray, ray_on_left, ray_on_right}
-- A rational point is on a segment, or a line separates it from the segment.
-- Points within a segment, and the side of a line on which a segment stays.
mod Sides
pub use Rattle.plane.proofs.Segments.Sides.{IsWithin, first_end_on_line, left_not_on, on_or_not, on_or_separated, right_not_on}
pub use Rattle.plane.proofs.Segments.Sides.{same_straight, separated_not_on, stays_left, stays_right, within_from}
