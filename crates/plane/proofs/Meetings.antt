-- Whether two segments meet, and where first.

-- The first point of a segment on the way from one rational point to another, from which the segment is in one direction.
mod FirstMeeting
unfoldable pub use Rattle.plane.proofs.Meetings.FirstMeeting.{zero_combination}
pub use Rattle.plane.proofs.Meetings.FirstMeeting.{First, no_value, values_apart, weights_apart, zero_point}
-- A rational point against a line through whole points, the meeting of two such lines, and mediants.
mod Meeting
pub use Rattle.plane.proofs.Meetings.Meeting.{along_is_straight, cross_product_reversed, determinant_by_offsets, mediant_not_first}
pub use Rattle.plane.proofs.Meetings.Meeting.{mediant_not_second, mediant_on, meeting_is_straight}
-- Two segments of which neither is beside the line of the other cross, or they are on one line.
-- Two whole segments meet exactly if their boxes do and neither is beside the line of the other.
mod SegmentsMeet
pub use Rattle.plane.proofs.Meetings.SegmentsMeet.{crossing_or_line, segments_apart, segments_meet_from}
-- Two whole segments that share an end meet there alone, or elsewhere too.
mod MeetOnlyAt
pub use Rattle.plane.proofs.Meetings.MeetOnlyAt.{elsewhere_not_only, meet_elsewhere, meet_only_at_from}
-- The first point of a segment on the way from one point of its line to another.
-- On the way from one rational point to another there is a first point of a segment, or the way does not meet it.
mod FirstOnSegment
pub use Rattle.plane.proofs.Meetings.FirstOnSegment.{first_or_none}
