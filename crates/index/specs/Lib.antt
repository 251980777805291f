pub mod Hash
pub mod Index
