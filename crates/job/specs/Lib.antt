pub mod Job
pub mod Checks
pub mod Gives
pub mod Bad
