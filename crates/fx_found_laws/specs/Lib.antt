pub mod OwnNames
pub mod OthersRows
