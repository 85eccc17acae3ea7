pub mod Bounded
pub mod Queues
pub mod Vectors
pub mod Values
