-- Laws of rules, for this crate and those above it.
pub mod Bits
