pub mod Stores
pub mod Named
pub mod Numbers
mod Counts
pub mod Accepted
