-- Steps past no vertex, as they are seen from a point by the paths to both ends.

mod LineSides
mod InnerPoints
mod OwnGates
mod OnWay
pub use Rattle.hulls.proofs.StepsSeen.OnWay.{none_between_back}
-- A step past no vertex along a walk of triangles: it comes from one to the next over the side between them, and so to its end.
-- In a simple ring each step past no vertex that a point of the ring is not on is seen from that point in one of four ways.
mod KeptSteps
pub use Rattle.hulls.proofs.StepsSeen.KeptSteps.{steps}
