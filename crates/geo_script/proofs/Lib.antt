mod InNumbers
mod Limited
pub mod NextRecord
mod Pieces
mod Together
mod Unprepared
mod Versions
