pub mod Components
pub mod Colours
pub mod Ends
mod Tiles
