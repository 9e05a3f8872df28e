pub mod Parts
pub mod Hints
pub mod Readings
pub mod Texts
pub mod Files
pub mod Repaints
