pub mod Place
pub mod HandIns
pub mod Sound
pub mod Fit
pub mod Accepted
pub mod Names
