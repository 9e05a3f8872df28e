pub mod Runs
pub mod Tests
pub mod Loops
pub mod Hits
pub mod Counting
pub mod Copies
pub mod Sums
