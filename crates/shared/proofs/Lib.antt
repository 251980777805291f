-- Laws of what is shown in a part.
pub mod Places
