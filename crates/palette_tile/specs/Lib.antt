pub mod Walk
pub mod Tiles
