pub mod Looking
pub mod Stored
pub mod Cases
