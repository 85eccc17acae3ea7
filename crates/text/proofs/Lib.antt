pub mod Splits
pub mod Scans
