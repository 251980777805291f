pub mod Padded
pub mod Subcommands
pub mod Running
