pub mod Neighbour
pub mod Calls
pub mod Containing
pub mod Search
