-- Laws of replies written piece by piece, of the room that a reply asks,
-- and of an answer as an outcome of the model.
pub mod Writing
pub mod Room
pub mod Outcomes
