pub mod Singles
pub mod Pairs
