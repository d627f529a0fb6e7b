pub mod Driven
pub mod Stepping
pub mod Members
pub mod Drives
pub mod Operations
