-- Laws of what actions do and of their answers, for this crate and those above it.
pub mod Doing
pub mod Acting
