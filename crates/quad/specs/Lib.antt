pub mod Numbers
pub mod Block
pub mod Direction
pub mod Tree
