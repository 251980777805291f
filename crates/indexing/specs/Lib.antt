pub mod IndexedCall
pub mod Indexing
pub mod OnePass
pub mod Halving
pub mod Local
