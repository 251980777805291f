pub mod Exchange
pub mod Views
pub mod Statuses
