pub mod Digits
pub mod Words
pub mod Begins
pub mod Completes
pub mod Longest
pub mod Walks
