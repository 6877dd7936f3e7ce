-- The definitions of this room that most files cite, under one name.
pub use Rattle.rings.specs.Bend.{AreNeighbours, IsBend, IsReflexVertex}
pub use Rattle.rings.specs.Chain.{IsBentChain, IsChain, IsInner, IsPath, IsTaut, point_at}
pub use Rattle.rings.specs.Edge.{Edge, Has, HasEdge, HasEnd, IsClosed, IsOn, IsOnSome, edge, edges_along, edges_of, growth}
pub use Rattle.rings.specs.Inside.{IsIn, crossing, crossings, is_crossed, is_crossed_down, is_crossed_up, winding}
pub use Rattle.rings.specs.Orientation.{IsClockwise, IsCounterclockwise, IsReflex, doubled_area, is_clockwise, swept, turn_at, turned_round}
pub use Rattle.rings.specs.Ring.{IsOnEdge, origin, vertex}
pub use Rattle.rings.specs.Sees.{Sees}
pub use Rattle.rings.specs.Simple.{Clash, HasEqualEnds, IsLeastClash, IsLesserPair, IsSimple, SharesPoint}
