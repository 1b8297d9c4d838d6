pub mod Words
pub mod Queues
