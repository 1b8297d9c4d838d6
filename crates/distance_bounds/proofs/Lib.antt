pub mod TheoremOne
pub mod Bounds
