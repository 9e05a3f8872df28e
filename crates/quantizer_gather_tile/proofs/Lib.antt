mod Tiles
pub mod Through
