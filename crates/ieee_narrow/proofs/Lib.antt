-- The library's definition of the conversion is ours. Assumes nothing.
pub mod Rounded
