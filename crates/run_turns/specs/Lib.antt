pub mod Asked
pub mod Rounds
