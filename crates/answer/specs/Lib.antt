pub mod Refusals
pub mod Rules
pub mod Names
pub mod Outcome
pub mod Words
