pub mod Chain
pub mod Words
pub mod Entries
pub mod Numbered
pub mod Calls
pub mod Paths
