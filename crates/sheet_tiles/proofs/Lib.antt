mod Tiles
mod Rest
