pub mod Turns
mod Entries
