pub mod Lines
pub mod Stopping
