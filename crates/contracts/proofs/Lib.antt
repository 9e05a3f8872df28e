pub mod Keeps
pub mod Calls
pub mod Determined
pub mod First
pub mod Second
pub mod Third
