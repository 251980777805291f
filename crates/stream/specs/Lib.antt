pub mod Frame
pub mod Feed
pub mod WrongFeeders
pub mod Machine
pub mod Assembler
pub mod Stream
