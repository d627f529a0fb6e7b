pub mod Commands
pub mod Formed
pub mod WrittenLines
