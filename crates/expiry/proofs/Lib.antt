-- Laws of the sum of an expiry.
pub mod Times
