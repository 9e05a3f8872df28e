pub mod Weakest
