pub mod Wrapping
pub mod Pieces
