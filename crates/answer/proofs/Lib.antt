pub mod Passing
pub mod Places
pub mod Outcomes
pub mod Words
pub mod Refusals
