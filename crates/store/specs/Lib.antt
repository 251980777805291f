pub mod Called
pub mod Runs
