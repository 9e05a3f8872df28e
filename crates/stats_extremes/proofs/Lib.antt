pub mod Choices
pub mod Turns
pub mod Order
pub mod Examples
