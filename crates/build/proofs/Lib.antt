-- Laws of the words that are left to add, at a place, of lengths, and of a command that is placed in a buffer.
pub mod Left
pub mod Sizes
pub mod Placing
