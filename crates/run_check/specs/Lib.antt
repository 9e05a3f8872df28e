pub mod Reads
pub mod Room
