pub mod Compared
pub mod Moving
pub mod Halving
pub mod Building
pub mod Listing
