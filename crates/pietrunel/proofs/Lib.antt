-- Laws of a reported value.
pub mod Showing
