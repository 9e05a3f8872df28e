mod Steps
pub mod Sums
pub mod Parts
pub mod Example
pub mod Near
