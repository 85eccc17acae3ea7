pub mod Front
pub mod Prints
