pub mod Format
pub mod Pieces
pub mod Walks
