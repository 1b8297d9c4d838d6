pub mod File
pub mod Calls
pub mod Reading
pub mod Writing
pub mod Linking
