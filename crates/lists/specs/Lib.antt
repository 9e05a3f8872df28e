-- Definitions (Count, Firsts, Every, Parts), each with its laws below it, and the laws of tests and of writes. Assumes nothing.
pub mod Count
pub mod Firsts
pub mod Every
pub mod Parts
