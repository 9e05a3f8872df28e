mod SeedingRounds
mod Finishes
mod Closes
mod Orders
mod Begins
mod FirstRound
