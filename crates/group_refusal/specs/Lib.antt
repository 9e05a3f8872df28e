pub mod Faults
pub mod Refusal
