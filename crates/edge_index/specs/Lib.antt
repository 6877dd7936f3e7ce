pub mod Candidates
pub mod Covers
pub mod Probes
pub mod Runs
pub mod Slabs
