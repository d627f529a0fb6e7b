pub mod Lines
pub mod Reading
pub mod Held
pub mod Commands
pub mod Formed
