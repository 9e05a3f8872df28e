pub mod Forwards
pub mod Few
