-- Laws of the reader of commands. Callers use those of Spans: words by number.
pub mod Optional
pub mod Places
pub mod Digits
pub mod Lines
pub mod Starts
pub mod Bulks
pub mod Commands
pub mod Spans
pub mod Vectors
