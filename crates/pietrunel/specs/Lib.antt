pub mod Located
pub mod Reports
pub mod Views
