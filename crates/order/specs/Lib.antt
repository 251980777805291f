pub mod Compared
pub mod Places
