pub mod Forms
pub mod Attributes
pub mod Record
