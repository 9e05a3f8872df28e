pub mod Puts
pub mod Stores
pub mod Lengths
