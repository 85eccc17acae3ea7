pub mod Readings
pub mod Stops
pub mod Uniqueness
pub mod Longest
