pub mod Tests
pub mod Alike
pub mod Told
