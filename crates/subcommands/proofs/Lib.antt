-- Laws of the words of BITFIELD's subcommands and of their reading in turn.
pub mod Answers
pub mod Widths
pub mod Types
pub mod Offsets
pub mod Acting
pub mod Parts
pub mod Collecting
