-- Laws of pieces written side by side.
pub mod Pieces
