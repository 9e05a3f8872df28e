pub mod Heads
pub mod Whole
mod Spare
