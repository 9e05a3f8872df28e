pub mod Whilst
pub mod State
pub mod Named
pub mod Stages
pub mod Record
pub mod Calls
pub mod History
