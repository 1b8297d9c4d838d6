pub mod Gathered
pub mod Words
pub mod Under
