pub mod Gathered
pub mod Numbers
pub mod Fields
pub mod Bytes
mod Spelled
