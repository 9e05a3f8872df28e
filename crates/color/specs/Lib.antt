pub mod Color
pub mod Blend
