mod CappedNumber
mod Commands
mod DigitCounts
mod Faults
mod FieldAt
mod Fuel
pub mod HomTexts
pub mod Joined
pub mod LineFronts
mod Named
mod NumberPoints
pub mod Readings
mod RecordsLeft
