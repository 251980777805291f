-- Laws of the index beside a table.
pub mod LocalSearch
pub mod LocalExecute
pub mod LocalTakes
pub mod LocalTable
pub mod LocalKey
pub mod LocalGate
pub mod Local
pub mod LocalValue
