mod ReplacingRounds
mod GrowingRounds
mod SeedingRounds
pub mod Turns
