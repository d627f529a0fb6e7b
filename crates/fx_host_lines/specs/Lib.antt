pub mod Commands
pub mod Formed
