-- Two ways that pass one diagonal, walked back from their common end.

mod BentWays
-- Two ways to a point of a triangle over a side of it, the one to the right of the other, pass that side each ahead of the other; neighbours of
-- a corner behind such a way are behind the side.
mod LastSides
pub use Rattle.funnels.proofs.Passing.LastSides.{begin_passing, right_of_side}
mod Advanced
-- Two chains that pass a side that a walk crosses, each ahead of the other: what is known of them there, and how it stays so where one of them has a bend.
mod WalkedBack
pub use Rattle.funnels.proofs.Passing.WalkedBack.{ComeTo, IsAlong, IsBefore}
-- Two ways from one point that pass a segment: they go on one ray, or each is ahead of the other where they pass.
mod PartedWays
pub use Rattle.funnels.proofs.Passing.PartedWays.{on_one_ray}
-- Two chains that pass a side that a walk crosses, each ahead of the other, pass the side before it too; but they do not begin at one point, so it can't be.
mod MovedBack
pub use Rattle.funnels.proofs.Passing.MovedBack.{none_at, way_meets}
