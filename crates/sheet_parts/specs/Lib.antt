pub mod Front
pub mod Texts
