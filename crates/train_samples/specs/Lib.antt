pub mod Samples
pub mod Refusal
