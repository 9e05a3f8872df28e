-- SplitMix64 as its public description has it. Definitions only. Assumes nothing.
pub mod SplitMix
-- The shuffle that SplitMix64 drives. Definitions only. Assumes nothing.
pub mod Shuffle
