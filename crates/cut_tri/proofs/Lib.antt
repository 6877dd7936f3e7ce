mod AllowedSteps
mod Candidates
mod Completion
mod CornerPlaces
mod CutSets
pub mod DiagonalCuts
mod DistinctCorners
pub mod EarCuts
mod LeastTurns
mod Members
mod OneReading
mod Readings
pub mod RotatedCuts
pub mod Shapes
pub mod SomeCut
pub mod TriangleLists
pub mod WholePiece
mod WorkList
