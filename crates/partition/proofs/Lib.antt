-- Laws of a part of a table, of the tests before it, and of its slots.
pub mod Parts
