pub mod Tiles
pub mod Loads
pub mod Lengths
