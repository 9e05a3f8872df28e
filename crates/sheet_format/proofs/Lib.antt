pub mod Editions
pub mod Example
pub mod Headed
pub mod Exact
pub mod Light
pub mod Faults
pub mod Opened
