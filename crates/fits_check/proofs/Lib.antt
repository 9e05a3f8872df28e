mod Checks
pub mod Passes
