pub mod Asks
pub mod Hints
pub mod Present
pub mod Turns
pub mod Walks
