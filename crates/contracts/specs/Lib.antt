-- Calls is what a customer reads; a file for each function says what it is given and what its caller sees. Assumes nothing.
pub mod Keeps
pub mod Answers
pub mod Start
pub mod Advance
pub mod HandIn
pub mod Result
pub mod SingleFit
pub mod BestTwo
pub mod Assign
pub mod Group
pub mod Read
pub mod Write
pub mod FitText
pub mod TrainText
pub mod Calls
