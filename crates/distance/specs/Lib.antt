pub mod Distance
pub mod Calls
