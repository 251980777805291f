-- A part of a table is a table, and what follows: separation, and demand 3 of a shared table.
pub mod Parts
pub mod Reading
pub mod PartIsTable
pub mod Refusals
pub mod PartShown
pub mod Separate
pub mod Projection
pub mod SharedSerial
pub mod SharedHistories
pub mod Refuted
