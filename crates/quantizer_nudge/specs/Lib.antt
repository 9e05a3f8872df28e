pub mod Nudges
