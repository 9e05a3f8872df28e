pub mod Joined
pub mod Rooms
pub mod Rules
pub mod Trains
pub mod Texts
pub mod Sheets
