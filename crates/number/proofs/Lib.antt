-- Laws for the proofs of this crate and of those above it.
pub mod Figures
pub mod Integers
pub mod Reading
pub mod Writing
