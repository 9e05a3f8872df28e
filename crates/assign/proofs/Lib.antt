mod Answers
pub mod Reading
