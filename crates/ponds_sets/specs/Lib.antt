pub mod Sets
pub mod Labelled
pub mod Lines
pub mod Touch
pub mod Walk
