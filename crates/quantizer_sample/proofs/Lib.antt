pub mod Colours
pub mod Course
