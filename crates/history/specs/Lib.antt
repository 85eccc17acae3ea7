pub mod Calls
pub mod Histories
pub mod Promise
pub mod Said
pub mod Theorem
