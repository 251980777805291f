-- Laws of lines, of the walk along two indexes, and of what is told of two tables.
pub mod Texts
pub mod Merge
pub mod Stepping
pub mod Walking
pub mod Reporting
