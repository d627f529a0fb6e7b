pub mod Run
pub mod Touched
pub mod Logged
