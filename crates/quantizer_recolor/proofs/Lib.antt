pub mod Rows
pub mod Colours
pub mod Lengths
