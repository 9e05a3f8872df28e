pub mod Stops
pub mod Cuts
pub mod Singles
pub mod ByCalls
