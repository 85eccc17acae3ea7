pub mod Transcript
pub mod Sessions
pub mod Steps
pub mod Answered
