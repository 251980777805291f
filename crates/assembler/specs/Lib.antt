pub mod Places
pub mod States
pub mod Assembling
