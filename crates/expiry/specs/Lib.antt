pub mod Expiry
