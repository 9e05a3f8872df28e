pub mod Palette
