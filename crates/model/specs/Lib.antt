pub mod Counts
pub mod Tables
pub mod Layouts
pub mod Sound
pub mod Checks
pub mod Fresh
pub mod Refinement
