-- How a run follows the cycle, the draws in closed form, evenness, and the tenth of n. Assumes nothing.
pub mod Tenths
pub mod Examples
pub mod Follow
pub mod Rounds
pub mod Shares
pub mod Ready
pub mod Even
