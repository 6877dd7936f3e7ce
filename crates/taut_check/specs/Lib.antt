pub mod Found
pub mod Verdict
pub mod Segments
pub mod Sound
