pub mod Lines
pub mod Switches
