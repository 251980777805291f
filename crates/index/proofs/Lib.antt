-- Laws of the index of a table's keys, for this crate and those above it. Each holds of every form.
pub mod KeyWords
pub mod Entries
pub mod Chains
pub mod Keys
pub mod Entering
