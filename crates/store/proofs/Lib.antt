-- Laws of a call by the gate's answer, of a task and its execution, and of BITFIELD's subcommands.
pub mod Gate
pub mod Acting
pub mod Subcommands
