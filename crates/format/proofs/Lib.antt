pub mod Tests
pub mod Reading
pub mod Lawful
pub mod Light
pub mod Files
pub mod Fixed
