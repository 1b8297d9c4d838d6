pub mod Counts
pub mod Ranked
