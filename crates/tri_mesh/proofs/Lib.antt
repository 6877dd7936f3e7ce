mod AllReached
mod Firsts
pub mod Neighbours
mod RowPairs
mod RowSteps
mod RowsFilled
mod SearchSteps
mod SideLists
mod SidesSeen
mod Waiting
