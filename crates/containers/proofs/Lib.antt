pub mod Latest
pub mod Rounds
pub mod Answered
pub mod Overflows
