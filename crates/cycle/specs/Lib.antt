-- The cycle of samples, even draws, and the tenth of n. Definitions only. Assumes nothing.
pub mod Cycle
pub mod Even
pub mod Tenth
