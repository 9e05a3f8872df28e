pub mod Averages
