pub mod Little
pub mod Kinds
pub mod Packed
