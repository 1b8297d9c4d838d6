pub mod Search
pub mod Around
