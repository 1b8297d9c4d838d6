pub mod Walk
pub mod Good
