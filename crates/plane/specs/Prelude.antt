-- The definitions of this room that most files cite, under one name.
pub use Rattle.plane.specs.Order.{IsBefore, IsBetween, IsBeyond, LiesBetween, Precedes}
pub use Rattle.plane.specs.Point.{IsInBounds, IsInLimit, IsPoint, IsSame, Point, Triple, whole}
pub use Rattle.plane.specs.Segment.{Meet, MeetElsewhere, MeetOnlyAt, On, part_of_way}
pub use Rattle.plane.specs.Triangle.{IsInTriangle, height_over}
pub use Rattle.plane.specs.Turn.{IsLeft, IsRight, IsStraight, determinant}
