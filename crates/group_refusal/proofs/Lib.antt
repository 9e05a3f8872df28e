pub mod Faults
pub mod Passes
pub mod Names
