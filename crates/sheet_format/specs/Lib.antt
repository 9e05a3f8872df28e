pub mod Sheet
pub mod Lists
pub mod Opened
pub mod Proper
