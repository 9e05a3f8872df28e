pub mod Closing
pub mod Keeping
