pub mod First
pub mod Seeds
pub mod Settles
