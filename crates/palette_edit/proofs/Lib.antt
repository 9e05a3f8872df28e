mod Copying
pub mod Kept
pub mod Gentle
