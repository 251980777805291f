pub mod Moves
pub mod States
pub mod Holding
