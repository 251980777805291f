pub mod Under
pub mod After
