pub mod Bytewise
pub mod Overflow
