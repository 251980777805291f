-- Laws of the groups of options and of their reading word by word.
pub mod Groups
pub mod Taking
