pub mod Calls
pub mod Sums
pub mod Walks
pub mod Marks
pub mod Audits
