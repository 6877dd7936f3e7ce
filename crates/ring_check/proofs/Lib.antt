mod AreaSoFar
mod Below
mod EdgeEnds
mod GapMoves
mod Orders
pub mod Oriented
mod Reflex
mod SharedPoints
mod StatusEdits
mod SweptArea
mod TwoEdits
