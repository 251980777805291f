pub mod Separation
pub mod SharedHistory
pub mod WrongShared
