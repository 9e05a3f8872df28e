pub mod Writes
pub mod Here
pub mod Prints
