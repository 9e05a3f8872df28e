-- What the laws of IEEE 754 speak of, and the conversion of an f64 to an f32. Definitions only. Assumes nothing.
pub mod Terms
pub mod Narrow
