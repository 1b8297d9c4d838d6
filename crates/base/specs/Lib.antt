pub mod All
pub mod Tab
