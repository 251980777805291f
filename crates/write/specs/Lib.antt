pub mod Does
pub mod Finish
