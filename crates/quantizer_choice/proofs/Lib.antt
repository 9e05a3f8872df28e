mod Choices
pub mod Parts
